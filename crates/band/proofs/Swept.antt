-- A segment in the rows of a band: between its flanks where its sweep meets the row, and nothing where it does not.
use Prim.Native.Nat.{ℕ, zero, suc, ◌+◌, ◌-◌, ◌≤◌, ◌<◌}
use native.Mathlib.Omega.{arith}
use native.Mathlib.Decide.{dec_lt}
use mathlib.Core.Path.{◌≡◌, refl, sym, ap, ap₂, ◌∙◌, subst}
use mathlib.Core.Bool.{Bool, true, false, not, cond, ◌&&◌}
use mathlib.Core.List.{List}
use lib.Dec.{leb, ltb}
use lib.ListN.{get_or}
use lib.IntN.{ℤ, pos, ◌+ℤ◌, ◌-ℤ◌, ◌*ℤ◌}
use lib.Signed.{le_z}
use Rattle.integers.specs.Compare.{min_z, max_z}
use Rattle.limits.specs.Sizes.{raster_max, in_range}
use Rattle.plane.specs.Point.{Pt, corners}
use Rattle.ties.specs.Below.{below}
use Rattle.stroke.specs.Extent.{Span, none, extent}
use Rattle.stroke.specs.Runs.{in_span}
use Rattle.outline.specs.Outline.{past}
use Rattle.bits.specs.Bits.{blackened}
use Rattle.flanks.specs.declared.Ends.{Ends}
use Rattle.flanks.specs.declared.Flanks.{Flanks}
use Rattle.flanks.specs.declared.Cut.{Cut}
use Rattle.flanks.specs.Flanks.{risen, begun, flanks_at, inside, inside_of, span_at, count_to, cut_at}
use Rattle.flanks.proofs.Bound.{flanks_bound}
use Rattle.flanks.proofs.Cuts.{cut_is}
use Rattle.extent.specs.Answer.{seg}
use Rattle.band.specs.declared.Shape.{Shape}
use Rattle.band.specs.Rows.{shaped, risen_by, flank_black, segment_black, PenOf, Fits, Part, Past}
use Rattle.band.proofs.Layers.{laid_none, laid_wider}
use Rattle.band.proofs.OneRow.{laid_same}
use Rattle.band.proofs.Carried.{risen_none, risen_more}

-- ---- the flanks of a segment
pick : {A B : Type 0} (h : A → B) (t : Bool) (x y : A) → h (cond t x y) ≡ cond t (h x) (h y)
pick h true x y = refl
pick h false x y = refl

same_reach : (t : Bool) (g f : Flanks) → g.low ≡ f.low → g.high ≡ f.high → ((cond t g f).low ≡ f.low) × ((cond t g f).high ≡ f.high)
same_reach true g f l h = (l, h)
same_reach false g f l h = (refl, refl)

none_met : (t : Bool) → (t && false) ≡ false
none_met true = refl
none_met false = refl

cut_met : (f : Flanks) (j columns : ℕ) → inside f j ≡ true → cut_at f j columns ≡ record { first = count_to columns f.left.edge.column; end = count_to columns f.right.edge.column }
unfolding cut_at
cut_met f j columns e = rw e

module _ (count : ℕ) (xs ys : List ℤ) (pen : PenOf count xs ys) (ax ay bx by : ℤ)
    (ranged : (in_range ax ≡ true) × (in_range ay ≡ true) × (in_range bx ≡ true) × (in_range by ≡ true)) where
  abbrev cs : List Pt
  cs = corners count xs ys

  abbrev start : Flanks
  start = begun count xs ys ax ay bx by

  abbrev deep : ℤ
  deep = pos 8 *ℤ get_or ys 0 (pos 0)

  -- the sweep reaches from the lower end's y, and to the upper one's
  low_is : start.low ≡ min_z ay by +ℤ deep
  unfolding begun
  low_is = ap (λ (y : ℤ). y +ℤ deep) (pick (λ (e : Ends). e.ly) (le_z ay by) (record { lx = ax; ly = ay; ux = bx; uy = by }) (record { lx = bx; ly = by; ux = ax; uy = ay }))

  high_is : start.high ≡ max_z ay by -ℤ deep
  unfolding begun
  high_is = ap (λ (y : ℤ). y -ℤ deep) (pick (λ (e : Ends). e.uy) (le_z ay by) (record { lx = ax; ly = ay; ux = bx; uy = by }) (record { lx = bx; ly = by; ux = ax; uy = ay }))

  -- no row changes that
  keeps : (f : Flanks) (j : ℕ) → ((risen count xs ys f j).low ≡ f.low) × ((risen count xs ys f j).high ≡ f.high)
  unfolding risen
  keeps f j = same_reach (inside f j) _ f refl refl

  kept_by : (from k : ℕ) → ((risen_by count xs ys start from k).low ≡ start.low) × ((risen_by count xs ys start from k).high ≡ start.high)
  kept_by from zero = let e = risen_none count xs ys start from in (ap (λ (f : Flanks). f.low) e, ap (λ (f : Flanks). f.high) e)
  kept_by from (suc k) =
      let e = risen_more count xs ys start from k in
      let r = keeps (risen_by count xs ys start from k) (from + k) in
      let b = kept_by from k in
      (ap (λ (f : Flanks). f.low) e ∙ r.0 ∙ b.0, ap (λ (f : Flanks). f.high) e ∙ r.1 ∙ b.1)

  -- the flanks in row from + k, as FlanksBound has them
  in_row : (from k : ℕ) → risen_by count xs ys start from (suc k) ≡ flanks_at count xs ys ax ay bx by from k
  in_row from zero = risen_more count xs ys start from 0 ∙ ap₂ (risen count xs ys) (risen_none count xs ys start from) (omega arith)
  in_row from (suc k) = risen_more count xs ys start from (suc k) ∙ ap (λ (f : Flanks). risen count xs ys f (from + suc k)) (in_row from k)

  -- the columns between them are the extent
  bounds : (from j : ℕ) → from ≤ j → j < raster_max → span_at (risen_by count xs ys start from (suc (j - from))) j ≡ extent cs (seg ax ay bx by) (pos j)
  bounds from j l h =
      let at : from + (j - from) ≡ j = omega (arith, l) in
      ap (λ (f : Flanks). span_at f j) (in_row from (j - from))
      ∙ subst (λ (n : ℕ). span_at (flanks_at count xs ys ax ay bx by from (j - from)) n ≡ extent cs (seg ax ay bx by) (pos n)) at
      (flanks_bound count xs ys pen.Dx pen.Dy pen.laws pen.narrow pen.low ax ay bx by ranged.0 ranged.1 ranged.2 ranged.3 from (j - from) (omega (arith, l, h)))

  abbrev met : ℕ → Bool
  met j = inside_of start.low start.high j

  met_by : (from k j : ℕ) → inside (risen_by count xs ys start from k) j ≡ met j
  met_by from k j = let b = kept_by from k in ap₂ (λ (x y : ℤ). inside_of x y j) b.0 b.1

  -- in a row that the sweep meets
  pub met_black : (columns from j x : ℕ) → from ≤ j → j < raster_max → x < columns → met j ≡ true → flank_black count xs ys start columns from j x ≡ segment_black cs (seg ax ay bx by) j x
  met_black columns from j x l h c m =
      let f = risen_by count xs ys start from (suc (j - from)) in
      sym (ap (λ (t : Cut). leb t.first x && ltb x t.end) (cut_met f j columns (met_by from (suc (j - from)) j ∙ m)))
      ∙ sym ((cut_is f j columns).1 x c)
      ∙ ap (λ (t : Span). in_span t (pos x)) (bounds from j l h)

  -- and in one that it does not
  pub missed_black : (j x : ℕ) → j < raster_max → met j ≡ false → segment_black cs (seg ax ay bx by) j x ≡ false
  missed_black j x h m =
      let f = risen_by count xs ys start j (suc (j - j)) in
      sym (ap (λ (t : Span). in_span t (pos x)) (bounds j j (omega arith) h))
      ∙ ap (λ (t : Bool). in_span (cond t (past f.left.edge.column f.right.edge.column) none) (pos x)) (met_by j (suc (j - j)) j ∙ m)

  -- ---- the rows that are laid, of those that are asked for
  module _ (s : Shape) (fits : Fits s) (from to a b : ℕ) (part : Part s from to) (p : Past (min_z ay by +ℤ deep) from to a) (q : Past (max_z ay by -ℤ deep) from to b) where
    low_test : (j : ℕ) → below (pos 16 *ℤ pos j) start.low ≡ below (pos 16 *ℤ pos j) (min_z ay by +ℤ deep)
    low_test j = ap (below (pos 16 *ℤ pos j)) low_is

    high_test : (j : ℕ) → below (pos 16 *ℤ pos j) start.high ≡ below (pos 16 *ℤ pos j) (max_z ay by -ℤ deep)
    high_test j = ap (below (pos 16 *ℤ pos j)) high_is

    in_raster : (j : ℕ) → j < to → j < raster_max
    in_raster j h = omega (arith, h, part.inside, fits.low)

    meets : (j : ℕ) → a ≤ j → j < b → met j ≡ true
    meets j l h = rw (low_test j ∙ p.over j l (omega (arith, l, h, q.before)), high_test j ∙ q.under j h (omega (arith, p.after, l, h)))

    misses_under : (j : ℕ) → from ≤ j → j < a → met j ≡ false
    misses_under j l h = rw (low_test j ∙ p.under j h (omega (arith, l, h)))

    misses_over : (j : ℕ) → b ≤ j → j < to → met j ≡ false
    misses_over j l h = rw (high_test j ∙ q.over j l (omega (arith, l, h))) (none_met (not (below (pos 16 *ℤ pos j) start.low)))

    blank_under : (j x : ℕ) → from ≤ j → j < a → j < to → segment_black cs (seg ax ay bx by) j x ≡ false
    blank_under j x l h t = missed_black j x (in_raster j t) (misses_under j l h)

    blank_over : (j x : ℕ) → from ≤ j → b ≤ j → j < to → segment_black cs (seg ax ay bx by) j x ≡ false
    blank_over j x l h t = missed_black j x (in_raster j t) (misses_over j h t)

    pub segment_laid : (c : List ℕ) → blackened (shaped (flank_black count xs ys start s.columns a) s a b) c ≡ blackened (shaped (segment_black cs (seg ax ay bx by)) s from to) c
    segment_laid c =
        laid_same (flank_black count xs ys start s.columns a) (segment_black cs (seg ax ay bx by)) s a b c
        (λ j x l h w. met_black s.columns a j x l (in_raster j (omega (arith, h, q.before))) w (meets j l h))
        ∙ laid_wider (segment_black cs (seg ax ay bx by)) s from a b to c p.after q.before blank_under blank_over

    pub segment_missed : b ≤ a → (c : List ℕ) → c ≡ blackened (shaped (segment_black cs (seg ax ay bx by)) s from to) c
    segment_missed e c = laid_none (segment_black cs (seg ax ay bx by)) s from to c
        (λ j x l t. elim (dec_lt j a) [ yes h ↦ blank_under j x l h t | no h ↦ blank_over j x l (omega (arith, e, h)) t ])
