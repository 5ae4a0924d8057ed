-- A mirror image of a corner lies as far from both axes as the corner, and a point that does so is a mirror image of it.
use Prim.Native.Nat.{ℕ}
use mathlib.Core.Path.{◌≡◌, refl, sym, ap, ap₂, ◌∙◌, subst}
use mathlib.Core.Logic.{◌⊎◌, inl, inr}
use lib.IntN.{ℤ, pos, negsuc, neg_ℤ, nat_abs}
use Rattle.integers.proofs.Bound.{nat_abs_neg}
use Rattle.plane.specs.Point.{Pt, pt}
use Rattle.quarter.specs.Cutting.{Corner}
use Rattle.pen.specs.Polygon.{upward}
use Rattle.pen.specs.Theorems.{AsFar}
use Rattle.pen.proofs.Images.{Image, is, is_flipped, is_turned, is_crossed, neg_neg}

pub image_far : (c : Corner) (z : Pt) → Image (upward c) z → AsFar c z
image_far c z i = go i
  where
    x_far : nat_abs (neg_ℤ (pos c.x)) ≡ c.x
    x_far = nat_abs_neg (pos c.x)

    y_far : nat_abs (neg_ℤ (pos c.y)) ≡ c.y
    y_far = nat_abs_neg (pos c.y)

    go : Image (upward c) z → AsFar c z
    go (is e) = subst (AsFar c) (sym e) (refl, y_far)
    go (is_flipped e) = subst (AsFar c) (sym e) (refl, nat_abs_neg (neg_ℤ (pos c.y)) ∙ y_far)
    go (is_turned e) = subst (AsFar c) (sym e) (x_far, nat_abs_neg (neg_ℤ (pos c.y)) ∙ y_far)
    go (is_crossed e) = subst (AsFar c) (sym e) (x_far, y_far)

-- a number is its distance from 0, or the opposite of that
either : (a : ℤ) (n : ℕ) → nat_abs a ≡ n → (a ≡ pos n) ⊎ (a ≡ neg_ℤ (pos n))
either (pos m) n e = inl (ap pos e)
either (negsuc m) n e = inr (ap (λ (k : ℕ). neg_ℤ (pos k)) e)

pub far_image : (c : Corner) (z : Pt) → AsFar c z → Image (upward c) z
far_image c z h = go (either z.x c.x h.0) (either z.y c.y h.1)
  where
    go : (z.x ≡ pos c.x) ⊎ (z.x ≡ neg_ℤ (pos c.x)) → (z.y ≡ pos c.y) ⊎ (z.y ≡ neg_ℤ (pos c.y)) → Image (upward c) z
    go (inl a) (inl b) = is_flipped (ap₂ pt a (b ∙ sym (neg_neg (pos c.y))))
    go (inl a) (inr b) = is (ap₂ pt a b)
    go (inr a) (inl b) = is_turned (ap₂ pt a (b ∙ sym (neg_neg (pos c.y))))
    go (inr a) (inr b) = is_crossed (ap₂ pt a b)
