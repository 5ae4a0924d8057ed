-- The two flanks of a segment's sweep, carried from row to row, upwards. These definitions tell what the code does with any numbers whatever; what they come to for a pen
-- is `FlanksBound` (Theorems).
use Rattle.std.specs.Prelude.{ℕ, zero, suc, ◌+◌, min, Bool, true, false, cond, not, ◌&&◌, List, length, get_or, ℤ, pos, neg_ℤ, nat_abs, ◌+ℤ◌, ◌-ℤ◌, ◌*ℤ◌}
use Rattle.std.specs.Int.Signed.{le_z}
use Rattle.integers.specs.Compare.{min_z, max_z}
use Rattle.ties.specs.Below.{below}
use Rattle.stroke.specs.Extent.{Span, none}
use Rattle.edge.specs.Edge.{nowhere as no_edge, raised, placed}
use Rattle.outline.specs.Outline.{past}
use Rattle.flanks.specs.declared.Ends.{Ends}
use Rattle.flanks.specs.declared.Flank.{Flank}
use Rattle.flanks.specs.declared.Flanks.{Flanks}
use Rattle.flanks.specs.declared.Cut.{Cut}
use Rattle.flanks.specs.Walk.{place_of, walked, tangent_of}

-- the lower end first
abbrev pub ordered : ℤ → ℤ → ℤ → ℤ → Ends
ordered ax ay bx by = cond (le_z ay by) (record { lx = ax; ly = ay; ux = bx; uy = by }) (record { lx = bx; ly = by; ux = ax; uy = ay })

-- as many corners as both arrays hold
abbrev pub held_of : ℕ → List ℤ → List ℤ → ℕ
held_of count xs ys = min count (min (length xs) (length ys))

-- a flank before its first row: its edge is none, and ends where the sweep begins
abbrev pub idle : ℤ → ℕ → Flank
idle low tangent = record { edge = no_edge; top = low; corner = 0; tangent = tangent }

-- the flanks of no segment
abbrev pub nowhere : Flanks
nowhere = record { ends = record { lx = pos 0; ly = pos 0; ux = pos 0; uy = pos 0 }; low = pos 0; high = pos 0; left = idle (pos 0) 0; right = idle (pos 0) 0 }

-- before the first row: the sweep reaches from as far below the lower end as corner 0 lies, to as far above the upper one
unfoldable pub begun : ℕ → List ℤ → List ℤ → ℤ → ℤ → ℤ → ℤ → Flanks
begun count xs ys ax ay bx by =
    let n = held_of count xs ys in
    let e = ordered ax ay bx by in
    let u = e.ux -ℤ e.lx in
    let v = e.uy -ℤ e.ly in
    let depth = pos 8 *ℤ get_or ys 0 (pos 0) in
    let low = e.ly +ℤ depth in
    record { ends = e; low = low; high = e.uy -ℤ depth; left = idle low (tangent_of xs ys n (neg_ℤ u) (neg_ℤ v)); right = idle low (tangent_of xs ys n u v) }

-- on the pen's edge at the end (ex, ey) that the height h meets, walking from corner k on
abbrev pub on_pen : List ℤ → List ℤ → ℕ → Bool → ℕ → ℕ → ℤ → ℤ → ℤ → Flank
on_pen xs ys n left tangent k ex ey h =
    let c = walked ys n left (h -ℤ ey) k in
    let p = place_of c n left in
    let q = place_of (suc c) n left in
    let top = ey +ℤ pos 8 *ℤ get_or ys q (pos 0) in
    record { edge = placed (ex +ℤ pos 8 *ℤ get_or xs p (pos 0)) (ey +ℤ pos 8 *ℤ get_or ys p (pos 0)) (ex +ℤ pos 8 *ℤ get_or xs q (pos 0)) top h; top = top; corner = c; tangent = tangent }

-- at the lower end, up to where the segment's own edge begins
abbrev pub at_lower : Flank → List ℤ → List ℤ → ℕ → Bool → Ends → ℤ → Flank
at_lower f xs ys n left e h =
    let g = on_pen xs ys n left f.tangent f.corner e.lx e.ly h in
    record { edge = g.edge; top = min_z g.top (e.ly +ℤ pos 8 *ℤ get_or ys f.tangent (pos 0)); corner = g.corner; tangent = f.tangent }

-- along the segment, through the corner that lies furthest out
abbrev pub along : Flank → List ℤ → List ℤ → Ends → ℤ → Flank
along f xs ys e h =
    let tx = pos 8 *ℤ get_or xs f.tangent (pos 0) in
    let ty = pos 8 *ℤ get_or ys f.tangent (pos 0) in
    record { edge = placed (e.lx +ℤ tx) (e.ly +ℤ ty) (e.ux +ℤ tx) (e.uy +ℤ ty) h; top = e.uy +ℤ ty; corner = f.corner; tangent = f.tangent }

-- at the upper end
abbrev pub at_upper : Flank → List ℤ → List ℤ → ℕ → Bool → Ends → ℤ → Flank
at_upper f xs ys n left e h = on_pen xs ys n left f.tangent f.corner e.ux e.uy h

-- the next edge of the outline, in the row at the height h: of the pen at the lower end, along the segment, or of the pen at the upper end
abbrev pub turned : Flank → List ℤ → List ℤ → ℕ → Bool → Ends → ℤ → Flank
turned f xs ys n left e h =
    let ty = pos 8 *ℤ get_or ys f.tangent (pos 0) in
    cond (below h (e.ly +ℤ ty)) (at_lower f xs ys n left e h) (cond (below h (e.uy +ℤ ty)) (along f xs ys e h) (at_upper f xs ys n left e h))

-- one row up, to the height h: on the same edge, or on the next one
unfoldable pub climbed : Flank → List ℤ → List ℤ → ℕ → Bool → Ends → ℤ → Flank
climbed f xs ys n left e h = cond (below h f.top) (record { edge = raised f.edge; top = f.top; corner = f.corner; tangent = f.tangent }) (turned f xs ys n left e h)

-- row j meets the sweep
abbrev pub inside_of : ℤ → ℤ → ℕ → Bool
inside_of low high j = not (below (pos 16 *ℤ pos j) low) && below (pos 16 *ℤ pos j) high

abbrev pub inside : Flanks → ℕ → Bool
inside f j = inside_of f.low f.high j

-- the first row, or one row up: in row j
unfoldable pub risen : ℕ → List ℤ → List ℤ → Flanks → ℕ → Flanks
risen count xs ys f j =
    let n = held_of count xs ys in
    let h = pos 16 *ℤ pos j in
    cond (inside f j)
    (record { ends = f.ends; low = f.low; high = f.high; left = climbed f.left xs ys n true f.ends h; right = climbed f.right xs ys n false f.ends h })
    f

-- the flanks of a segment that stand in row j, and k rows further up
abbrev pub flanks_at : ℕ → List ℤ → List ℤ → ℤ → ℤ → ℤ → ℤ → ℕ → ℕ → Flanks
flanks_at count xs ys ax ay bx by j zero = risen count xs ys (begun count xs ys ax ay bx by) j
flanks_at count xs ys ax ay bx by j (suc k) = risen count xs ys (flanks_at count xs ys ax ay bx by j k) (j + suc k)

-- the columns between the flanks in row j: past the left one, up to the right one
abbrev pub span_at : Flanks → ℕ → Span
span_at f j = cond (inside f j) (past f.left.edge.column f.right.edge.column) none

-- how many of the raster's columns lie up to column z
abbrev pub count_to : ℕ → ℤ → ℕ
count_to columns z = nat_abs (max_z (pos 0) (min_z (z +ℤ pos 1) (pos columns)))

-- the same columns cut to the raster: from `first` on, and before `end`
unfoldable pub cut_at : Flanks → ℕ → ℕ → Cut
cut_at f j columns = cond (inside f j) (record { first = count_to columns f.left.edge.column; end = count_to columns f.right.edge.column }) (record { first = 0; end = 0 })
