-- The numbers of the moved edge, step by step.
use Rattle.std.proofs.Common.{◌≡◌, ◌∙◌, ap, ◌^◌, ℤ, pos, ◌+ℤ◌, ◌-ℤ◌, ◌*ℤ◌, to_z, w64}
use Rattle.std.specs.Int.{int_max}
use lib.Dec.{leb→le}
use Rattle.integers.specs.Compare.{max_z}
use Rattle.integers.proofs.Bound.{abs_le}
use Rattle.integers.proofs.Greater.{greater_is}
use Rattle.integers.proofs.Machine.{Is, known, num, mul, mul_fits, add, add_fits, sub, weaken, bound}
use Rattle.integers.proofs.Words.{bits, ◌⊕◌, ◌⊖◌, ◌⊗◌, ap₃}
use Rattle.plane.specs.Polygon.{Side}
use Rattle.stroke.specs.Extent.{narrow}
use Rattle.extent.specs.declared.side.Ends.{Ends}
use Rattle.extent.specs.Held.{left, Near, Corner}
use Rattle.extent.proofs.Round.{moved_at}
use Rattle.extent.proofs.side.edge.Goals as goal

-- ---- the numbers: the ends, the corners
module _ {g : Ends} (near : Near g) {X Y X' Y' : ℤ} (P : Corner X Y) (Q : Corner X' Y') where
  px : Is w64 X (bits X) 128
  px = known P.x_small tt

  py : Is w64 Y (bits Y) 128
  py = known P.y_small tt

  -- the normal
  a : Is w64 (Y' -ℤ Y) (bits Y' ⊖ bits Y) 256
  a = sub (known Q.y_small tt) py tt

  b : Is w64 (X -ℤ X') (bits X ⊖ bits X') 256
  b = sub px (known Q.x_small tt) tt

  -- how far out along it a point lies, given by its numbers
  abbrev out_to : ℤ → ℤ → ℤ
  out_to x y = (Y' -ℤ Y) *ℤ x +ℤ (X -ℤ X') *ℤ y

  -- the corner P at the end A
  x_at : Is w64 (pos 8 *ℤ X +ℤ g.ax) (bits (pos 8) ⊗ bits X ⊕ bits g.ax) (2 ^ 19)
  x_at = weaken (leb→le _ _ tt) (add (mul (num (pos 8) tt) px tt) (known near.ax_small tt) tt)

  y_at : Is w64 (pos 8 *ℤ Y +ℤ g.ay) (bits (pos 8) ⊗ bits Y ⊕ bits g.ay) (2 ^ 20)
  y_at = weaken (leb→le _ _ tt) (add (mul (num (pos 8) tt) py tt) (known near.ay_small tt) tt)

  at_A : Is w64 (out_to (pos 8 *ℤ X +ℤ g.ax) (pos 8 *ℤ Y +ℤ g.ay))
      ((bits Y' ⊖ bits Y) ⊗ (bits (pos 8) ⊗ bits X ⊕ bits g.ax) ⊕ (bits X ⊖ bits X') ⊗ (bits (pos 8) ⊗ bits Y ⊕ bits g.ay)) (2 ^ 29)
  at_A = weaken (leb→le _ _ tt) (add (mul a x_at tt) (mul b y_at tt) tt)

  -- the way from A to B
  u : Is w64 (g.bx -ℤ g.ax) (bits g.bx ⊖ bits g.ax) (2 ^ 19)
  u = sub (known near.bx_small tt) (known near.ax_small tt) tt

  v : Is w64 (g.by -ℤ g.ay) (bits g.by ⊖ bits g.ay) (2 ^ 20)
  v = sub (known near.by_small tt) (known near.ay_small tt) tt

  to_B : Is w64 (out_to (g.bx -ℤ g.ax) (g.by -ℤ g.ay)) ((bits Y' ⊖ bits Y) ⊗ (bits g.bx ⊖ bits g.ax) ⊕ (bits X ⊖ bits X') ⊗ (bits g.by ⊖ bits g.ay)) (2 ^ 29)
  to_B = weaken (leb→le _ _ tt) (add (mul a u tt) (mul b v tt) tt)

  -- as much further out as B is, and with it the line
  further : {r : ℤ} → r ≡ int_max (to_z w64 ((bits Y' ⊖ bits Y) ⊗ (bits g.bx ⊖ bits g.ax) ⊕ (bits X ⊖ bits X') ⊗ (bits g.by ⊖ bits g.ay))) (to_z w64 (bits (pos 0))) →
      Is w64 (max_z (out_to (g.bx -ℤ g.ax) (g.by -ℤ g.ay)) (pos 0)) (bits r) (2 ^ 29)
  further e = greater_is to_B (weaken (leb→le _ _ tt) (num (pos 0) tt)) e

pub returns-clause-answer : goal.returns-clause-answer
returns-clause-answer c =
    let r = c.requires in
    let s = c.args in
    let side : ℤ → ℤ → ℤ → Side = λ a b c. record { a = a; b = b; c = c } in
    let line = (add (at_A r.near r.from r.to) (further r.near r.from r.to c.max-further.ensures.value) tt).reads
    ∙ moved_at (s.qy -ℤ s.py) (s.px -ℤ s.qx) s.px s.py s.g.ax s.g.ay s.g.bx s.g.by in
    c.narrow.ensures.answer ∙ ap (λ (e : Side). narrow (pos 0) e (left s.s)) (ap₃ side (a r.near r.from r.to).reads (b r.near r.from r.to).reads line)

pub overflow_mul-at_a-2 : goal.overflow_mul-at_a-2
overflow_mul-at_a-2 c = let r = c.requires in mul_fits (a r.near r.from r.to) (x_at r.near r.from r.to) tt

pub overflow_mul-at_a-4 : goal.overflow_mul-at_a-4
overflow_mul-at_a-4 c = let r = c.requires in mul_fits (b r.near r.from r.to) (y_at r.near r.from r.to) tt

pub overflow_add-at_a-3 : goal.overflow_add-at_a-3
overflow_add-at_a-3 c =
    let r = c.requires in
    add_fits (mul (a r.near r.from r.to) (x_at r.near r.from r.to) tt) (mul (b r.near r.from r.to) (y_at r.near r.from r.to) tt) tt

pub overflow_mul-a : goal.overflow_mul-a
overflow_mul-a c = let r = c.requires in mul_fits (a r.near r.from r.to) (u r.near r.from r.to) tt

pub overflow_mul-b : goal.overflow_mul-b
overflow_mul-b c = let r = c.requires in mul_fits (b r.near r.from r.to) (v r.near r.from r.to) tt

pub overflow_add-a : goal.overflow_add-a
overflow_add-a c =
    let r = c.requires in
    add_fits (mul (a r.near r.from r.to) (u r.near r.from r.to) tt) (mul (b r.near r.from r.to) (v r.near r.from r.to) tt) tt

pub overflow_add-at_a-4 : goal.overflow_add-at_a-4
overflow_add-at_a-4 c = let r = c.requires in add_fits (at_A r.near r.from r.to) (further r.near r.from r.to c.max-further.ensures.value) tt

pub narrow-requires-clause-side : goal.narrow-requires-clause-side
narrow-requires-clause-side c =
    let r = c.requires in
    record {
      num_small = abs_le (leb→le _ _ tt) (bound (add (at_A r.near r.from r.to) (further r.near r.from r.to c.max-further.ensures.value) tt));
      by_small = abs_le (leb→le _ _ tt) (bound (a r.near r.from r.to));
    }
