-- The segments passed are laid over the bytes, and each turn lays one more.
use mathlib.Core.List.{List}
use mathlib.Core.Bool.{true}
use mathlib.Core.Path.{◌≡◌, refl, sym, ap, ◌∙◌}
use Prim.Native.Nat.{ℕ, suc, ◌+◌, ◌*◌, ◌≤◌, ◌<◌}
use native.Mathlib.Numerals.{add-one}
use native.Mathlib.Omega.{arith}
use mir.Syntax.{w32}
use mir.Val.{to_z, of_z}
use lib.IntN.{ℤ, pos}
use lib.ListN.{length, get_or}
use lib.Seq.{take_all}
use Rattle.integers.proofs.Machine.{known}
use Rattle.flanks.proofs.Bound.{range_abs}
use Rattle.limits.specs.Sizes.{in_range}
use Rattle.plane.specs.Point.{Pt, corners}
use Rattle.bits.specs.Bits.{blackened}
use Rattle.stroke.specs.Sweep.{Seg, segments, path_points}
use Rattle.stroke.specs.Runs.{any}
use Rattle.extent.specs.Answer.{seg}
use Rattle.segments.specs.Ends.{EndsAt}
use Rattle.segments.proofs.Ends.{start_in}
use Rattle.band.specs.declared.Shape.{Shape}
use Rattle.band.specs.Rows.{shaped, segment_black}
use Rattle.band.proofs.Layers.{laid_none, laid_both, any_next}
use Rattle.band.proofs.path.lay_path.Invariants.{some_black}
use Rattle.band.proofs.path.lay_path.Goals as goal
use Rattle.band.proofs.path.lay_path.Goals.{After-end_of-b, At-loop-k, In-loop-k}

-- what stands past the last segment
abbrev past : Seg
past = seg (pos 0) (pos 0) (pos 0) (pos 0)

-- one segment more
one_more : (cs : List Pt) (l : List Seg) (s : Shape) (from to : ℕ) (bytes₀ : List ℕ) {bytes bytes' : List ℕ} (k : ℕ) → k < length l →
    bytes ≡ blackened (shaped (some_black cs l k) s from to) bytes₀ → bytes' ≡ blackened (shaped (segment_black cs (get_or l k past)) s from to) bytes →
    bytes' ≡ blackened (shaped (some_black cs l (suc k)) s from to) bytes₀
one_more cs l s from to bytes₀ k h d f =
    f ∙ laid_both (some_black cs l k) (segment_black cs (get_or l k past)) (some_black cs l (suc k)) s from to bytes₀ (λ j x. any_next (λ g. segment_black cs g j x) l k past h) d

-- k is one of the path's segments
one_of : (c : In-loop-k) → c.loop-k.k < length (segments (path_points c.args.path.now))
one_of c = omega (arith, c.count-k-end.ensures, c.loop-k-test.true)

start_of_lem : (c : In-loop-k) → 2 * c.loop-k.k + 1 < length c.args.path.now
start_of_lem c = start_in c.args.path.now c.loop-k.k (one_of c)

ends : (c : After-end_of-b) → EndsAt c.args.path.now c.loop-k.k c.end_of-b.result
ends c = c.end_of-b.ensures (one_of c.before)

-- an entry of a path is read as it stands
read : (z : ℤ) → in_range z ≡ true → to_z w32 (of_z w32 z) ≡ z
read z e = (known {w = w32} (range_abs z e) tt).reads

same_segment : {ax ay bx by ax' ay' bx' by' : ℤ} → ax ≡ ax' → ay ≡ ay' → bx ≡ bx' → by ≡ by' → seg ax ay bx by ≡ seg ax' ay' bx' by'
same_segment a b c d = cc

pub loop-k-init : goal.loop-k-init
loop-k-init c =
    let a = c.args in
    laid_none (some_black (corners a.count a.xs.now a.ys.now) (segments (path_points a.path.now)) 0) a.s a.from a.to a.bytes.now (λ j x _ _. refl)

pub overflow_mul-a : goal.overflow_mul-a
overflow_mul-a c = omega (arith, start_of_lem c)

-- of the entries of the segment, which are the path's
in_path : (c : After-end_of-b) → let p = c.args.path.now in let k = c.loop-k.k in let b = c.end_of-b.result in
    (in_range (get_or p (2 * k) (pos 0)) ≡ true) × (in_range (get_or p (2 * k + 1) (pos 0)) ≡ true) × (in_range (get_or p b (pos 0)) ≡ true) × (in_range (get_or p (b + 1) (pos 0)) ≡ true)
in_path c =
    let ranged = c.requires.ranged in
    let start = start_of_lem c.before in
    let end = (ends c).held in
    (ranged _ (omega (arith, start)), ranged _ start, ranged _ (omega (arith, end)), ranged _ end)

pub lay_segment-requires-clause-ranged : goal.lay_segment-requires-clause-ranged
lay_segment-requires-clause-ranged c =
    let h = in_path (goal.at.lay_segment-requires-clause-ranged c).After-end_of-b in
    let same = λ (z : ℤ) (e : in_range z ≡ true). ap in_range (read z e) ∙ e in
    (same _ h.0, same _ h.1, same _ h.2, same _ h.3)

pub loop-k-preserved : goal.loop-k-preserved
loop-k-preserved c =
    let a = c.args in
    let cs = corners a.count a.xs.now a.ys.now in
    let h = in_path (goal.at.loop-k-preserved c).After-end_of-b in
    let g = same_segment (read _ h.0) (read _ h.1) (read _ h.2) (read _ h.3) in
    rw add-one (one_more cs (segments (path_points a.path.now)) a.s a.from a.to a.bytes.now c.loop-k.k (one_of (goal.at.loop-k-preserved c).In-loop-k) c.loop-k.invariant
    (c.lay_segment.ensures ∙ ap (λ (g : Seg). blackened (shaped (segment_black cs g) a.s a.from a.to) c.loop-k.bytes) (g ∙ sym ((ends (goal.at.loop-k-preserved c).After-end_of-b).segment past))))

pub returns : goal.returns
returns c =
    let a = c.args in
    let cs = corners a.count a.xs.now a.ys.now in
    let l = segments (path_points a.path.now) in
    let all : length l ≤ c.loop-k.k = omega (arith, c.count-k-end.ensures, c.loop-k-test.false) in
    c.loop-k.invariant ∙ ap (λ (m : List Seg). blackened (shaped (λ j x. any (λ g. segment_black cs g j x) m) a.s a.from a.to) a.bytes.now) (take_all c.loop-k.k l all)
