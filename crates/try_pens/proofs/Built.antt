-- What `build` answers can be encoded: the pen's corners are few, and no further from the middle than its size says.
use Prim.Native.Nat.{ℕ, suc, ◌≤◌}
use native.Mathlib.Omega.{arith}
use mathlib.Core.Path.{◌≡◌, refl, sym, subst}
use mathlib.Core.Bool.{Bool, true, false}
use mathlib.Core.List.Memᴰ
use mathlib.Core.List.{List, [], map}
use lib.Dec.{leb→le}
use lib.ListN.{length}
use lib.IntN.{ℤ, pos, negsuc, neg_ℤ}
use Rattle.integers.specs.Orders.{◌≼◌}
use Rattle.integers.specs.Count.{◌∈◌}
use Rattle.integers.specs.Bound.{Abs}
use Rattle.integers.proofs.Bound.{abs_le}
use Rattle.limits.specs.Sizes.{pen_max}
use Rattle.setting.specs.declared.Setting.{Setting}
use Rattle.setting.specs.Setting.{Taken, taken, Dx, Dy}
use Rattle.plane.specs.Point.{Pt}
use Rattle.pen.specs.Polygon.{pen}
use Rattle.pen.specs.Answer.{pen_of, built}
use Rattle.pen.proofs.Images.{map_mem}
use Rattle.quarter.proofs.Laid.{laid_long, laid_small}
use Rattle.setting.proofs.Limits.{taken_iff, box_wide, box_high}
use Rattle.pen.proofs.Theorems.{pen_few, pen_is_pen}
use Rattle.pen.proofs.Answers.{pen_built, none_built}
use Rattle.try_pens.specs.Answer.{Encodable}

both : (z : ℤ) (n : ℕ) → z ≼ pos n → neg_ℤ z ≼ pos n → Abs z n
both (pos m) n h k = record { abs = leb→le m n h.le }
both (negsuc m) n h k = record { abs = leb→le (suc m) n k.le }

Small : List Pt → Type 0
Small cs = (z : Pt) → z ∈ cs → Abs z.x 32 × Abs z.y 32

coordinate : (f : Pt → ℤ) (cs : List Pt) → ((z : Pt) → z ∈ cs → Abs (f z) 32) → (a : ℤ) → a ∈ map f cs → Abs a 32
coordinate f cs h a m = let p = map_mem f cs m in subst (λ (x : ℤ). Abs x 32) (sym p.2) (h p.0 p.1)

laid : (r : ℕ) (cs : List Pt) → r ≤ 255 → length cs ≤ pen_max → Small cs → Encodable (record { refusal = r; pen = pen_of cs })
unfolding Small
laid r cs k few small = record {
  refusal_small = k;
  few = few;
  x_long = laid_long pen_max (λ z. z.x) cs few;
  y_long = laid_long pen_max (λ z. z.y) cs few;
  x_small = laid_small 32 pen_max (map (λ z. z.x) cs) (coordinate (λ z. z.x) cs (λ z m. (small z m).0));
  y_small = laid_small 32 pen_max (map (λ z. z.y) cs) (coordinate (λ z. z.y) cs (λ z m. (small z m).1));
}

pen_small : (σ : Setting) → Taken σ → Small (pen σ)
unfolding Small
pen_small σ τ z m =
    let laws = pen_is_pen σ τ in
    let x = both z.x (Dx σ) (laws.wide z m) (laws.wide _ (laws.mirror_x z m)) in
    let y = both z.y (Dy σ) (laws.high z m) (laws.high _ (laws.mirror_y z m)) in
    (abs_le (box_wide τ).1 x, abs_le (box_high τ).1 y)

none_small : Small []
unfolding Small
none_small z m = absurd (Memᴰ.not-nil m)

pub encodable : (σ : Setting) → Encodable (built σ)
encodable σ = go (taken σ) refl
  where
    go : (t : Bool) → taken σ ≡ t → Encodable (built σ)
    go true h = let τ = (taken_iff σ).0 h in rw (pen_built σ h) (laid 0 (pen σ) (omega arith) (pen_few σ τ) (pen_small σ τ))
    go false h = rw (none_built σ h) (laid 1 [] (omega arith) (omega arith) none_small)
