-- The rows that the sweep meets, of those that are asked for, are laid; where it meets none, nothing is to be laid.
use Prim.Native.Nat.{ℕ, ◌^◌}
use native.Mathlib.Nat.{le_of_lt}
use mathlib.Core.Path.{◌≡◌, ap, ◌∙◌, sym, subst}
use mathlib.Core.Bool.{true}
use mathlib.Core.List.{List}
use lib.Dec.{leb→le}
use lib.IntN.{ℤ, ◌+ℤ◌, ◌-ℤ◌}
use mir.Syntax.{w32, w64}
use mir.Val.{SFits, to_z, of_z}
use mir.Facts.{to_z-of_z}
use Rattle.std.specs.Int.{int_max, int_min}
use Rattle.integers.specs.Bound.{Abs}
use Rattle.integers.specs.Compare.{min_z, max_z}
use Rattle.integers.proofs.Bound.{abs_le}
use Rattle.integers.proofs.Greater.{int_max_is, int_min_is}
use Rattle.integers.proofs.Machine.{Is, known, got, add, sub, bound}
use Rattle.integers.proofs.Words.{bits, ◌⊕◌, ◌⊖◌, min_is, max_is}
use Rattle.limits.specs.Sizes.{in_range}
use Rattle.flanks.specs.declared.Flanks.{Flanks}
use Rattle.flanks.specs.Flanks.{begun}
use Rattle.flanks.proofs.Bound.{range_abs}
use Rattle.bits.specs.Bits.{blackened}
use Rattle.band.specs.Rows.{shaped, flank_black, Past}
use Rattle.band.proofs.Layers.{part_of}
use Rattle.band.proofs.Swept.{segment_laid, segment_missed}
use Rattle.band.proofs.segment.lay_segment.Goals as goal

-- ---- the heights between which the sweep lies
-- a number of 32 bits made wide
wider : {x r : ℤ} {m : ℕ} → Is w32 x m 262144 → r ≡ to_z w32 m → Is w64 x (bits r) 262144
wider p f = let e = f ∙ p.reads in got (known {w = w64} (subst (λ (z : ℤ). Abs z 262144) (sym e) p.abs) tt).fits e p.abs

-- how deep the pen is
deep_is : (deep d : ℤ) → d ≡ deep → Abs d 1024 → Is w64 deep (bits d) 1024
deep_is deep d e s = got (known {w = w64} s tt).fits e (subst (λ (z : ℤ). Abs z 1024) e s)

-- of a segment from a height a to a height b
module _ (a b : ℤ) (h : in_range a ≡ true) (k : in_range b ≡ true) (deep d : ℤ) (e : d ≡ deep) (s : Abs d 1024) where
  low : {m r : ℤ} → m ≡ int_min (to_z w32 (of_z w32 a)) (to_z w32 (of_z w32 b)) → r ≡ to_z w32 (of_z w32 m) →
      Is w64 (min_z a b +ℤ deep) (bits r ⊕ bits d) 263168
  low f g = add (wider (min_is (known {w = w32} (range_abs a h) tt) (known {w = w32} (range_abs b k) tt) (f ∙ int_min_is (to_z w32 (of_z w32 a)) (to_z w32 (of_z w32 b)))) g) (deep_is deep d e s) tt

  high : {m r : ℤ} → m ≡ int_max (to_z w32 (of_z w32 a)) (to_z w32 (of_z w32 b)) → r ≡ to_z w32 (of_z w32 m) →
      Is w64 (max_z a b -ℤ deep) (bits r ⊖ bits d) 263168
  high f g = sub (wider (max_is (known {w = w32} (range_abs a h) tt) (known {w = w32} (range_abs b k) tt) (f ∙ int_max_is (to_z w32 (of_z w32 a)) (to_z w32 (of_z w32 b)))) g) (deep_is deep d e s) tt

-- ---- the flanks are the segment's
read : {z : ℤ} → SFits w32 z → to_z w32 (of_z w32 z) ≡ z
read f = to_z-of_z f

same_begun : (count : ℕ) (xs ys : List ℤ) {ax ay bx by ax' ay' bx' by' : ℤ} → ax ≡ ax' → ay ≡ ay' → bx ≡ bx' → by ≡ by' → begun count xs ys ax ay bx by ≡ begun count xs ys ax' ay' bx' by'
same_begun count xs ys a b c d = cc

pub rows_past-low-requires-clause-small : goal.rows_past-low-requires-clause-small
rows_past-low-requires-clause-small c =
    let r = c.requires.ranged in
    abs_le (leb→le 263168 (2 ^ 24) tt) (bound (low c.args.ay c.args.by r.1 r.3 _ _ c.depth-deep.ensures.same c.depth-deep.ensures.small c.min.ensures.value c.from.ensures))

pub rows_past-high-requires-clause-small : goal.rows_past-high-requires-clause-small
rows_past-high-requires-clause-small c =
    let r = c.requires.ranged in
    abs_le (leb→le 263168 (2 ^ 24) tt) (bound (high c.args.ay c.args.by r.1 r.3 _ _ c.depth-deep.ensures.same c.depth-deep.ensures.small c.max.ensures.value c.from-2.ensures))

pub lay_rows-requires-clause-part : goal.lay_rows-requires-clause-part
lay_rows-requires-clause-part c =
    part_of c.rows_past-low.result c.rows_past-high.result c.requires.part c.rows_past-low.ensures.after (le_of_lt c.if-low-high.true) c.rows_past-high.ensures.before

pub returns-then-low-high : goal.returns-then-low-high
returns-then-low-high c =
    let a = c.args in
    let r = c.requires.ranged in
    let d = c.depth-deep.ensures in
    let l = c.rows_past-low.result in
    let h = c.rows_past-high.result in
    c.lay_rows.ensures
    ∙ ap (λ (f : Flanks). blackened (shaped (flank_black a.count a.xs.now a.ys.now f a.s.columns l) a.s l h) a.bytes.now)
    (c.begin-begun.ensures ∙ same_begun a.count a.xs.now a.ys.now (read c.ranges.ax) (read c.ranges.ay) (read c.ranges.bx) (read c.ranges.by))
    ∙ segment_laid a.count a.xs.now a.ys.now c.requires.pen a.ax a.ay a.bx a.by r a.s c.requires.fits a.from a.to l h c.requires.part
    (subst (λ (y : ℤ). Past y a.from a.to l) (low a.ay a.by r.1 r.3 _ _ d.same d.small c.min.ensures.value c.from.ensures).reads c.rows_past-low.ensures)
    (subst (λ (y : ℤ). Past y a.from a.to h) (high a.ay a.by r.1 r.3 _ _ d.same d.small c.max.ensures.value c.from-2.ensures).reads c.rows_past-high.ensures) a.bytes.now

pub returns-else-low-high : goal.returns-else-low-high
returns-else-low-high c =
    let a = c.args in
    let r = c.requires.ranged in
    let d = c.depth-deep.ensures in
    let l = c.rows_past-low.result in
    let h = c.rows_past-high.result in
    segment_missed a.count a.xs.now a.ys.now c.requires.pen a.ax a.ay a.bx a.by r a.s c.requires.fits a.from a.to l h c.requires.part
    (subst (λ (y : ℤ). Past y a.from a.to l) (low a.ay a.by r.1 r.3 _ _ d.same d.small c.min.ensures.value c.from.ensures).reads c.rows_past-low.ensures)
    (subst (λ (y : ℤ). Past y a.from a.to h) (high a.ay a.by r.1 r.3 _ _ d.same d.small c.max.ensures.value c.from-2.ensures).reads c.rows_past-high.ensures) c.if-low-high.false a.bytes.now
