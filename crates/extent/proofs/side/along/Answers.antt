-- The two sides along the path, where the ends differ.
use Rattle.std.proofs.Common.{◌≡◌, ◌∙◌, sym, ap, ap₂, subst, ◌^◌, true, false, List, ℤ, pos, neg_ℤ, ◌+ℤ◌, ◌-ℤ◌, ◌*ℤ◌, to_z, w64}
use lib.Dec.{leb→le}
use Rattle.integers.specs.Bound.{Abs}
use Rattle.integers.specs.Compare.{eq_z}
use Rattle.integers.proofs.Bound.{abs_fits}
use Rattle.integers.proofs.Signs.{neg_neg}
use Rattle.integers.proofs.Tests.{and_true, and_false, false_and, eq_iff, not_eqz}
use Rattle.integers.proofs.Machine.{Is, got, known, num, add, add_fits, sub, sub_fits, mul, mul_fits, weaken, along, bound, eq_yes, eq_bits}
use Rattle.integers.proofs.Words.{bits, ◌⊕◌, ◌⊖◌, ◌⊗◌, opposite, ap₃}
use Rattle.plane.specs.Point.{Pt, pt, same, corners}
use Rattle.plane.specs.Polygon.{dot}
use Rattle.stroke.specs.Sides.{furthest, touching}
use Rattle.stroke.specs.Extent.{Left, narrow}
use Rattle.extent.specs.declared.side.Ends.{Ends}
use Rattle.extent.specs.Held.{Near, left, ends}
use Rattle.extent.proofs.Read.{to_right, to_left}
use Rattle.extent.proofs.Round.{no_path, two_paths}
use Rattle.extent.proofs.side.along.Goals as goal
use Rattle.extent.proofs.side.along.Goals.{else-g-via-then-g+else-g-2, else-g-via-else-g}

module _ {g : Ends} (near : Near g) where
  ax : Is w64 g.ax (bits g.ax) (2 ^ 18)
  ax = known near.ax_small tt

  ay : Is w64 g.ay (bits g.ay) (2 ^ 19)
  ay = known near.ay_small tt

  bx : Is w64 g.bx (bits g.bx) (2 ^ 18)
  bx = known near.bx_small tt

  by : Is w64 g.by (bits g.by) (2 ^ 19)
  by = known near.by_small tt

  -- the way from A to B
  u : Is w64 (g.bx -ℤ g.ax) (bits g.bx ⊖ bits g.ax) (2 ^ 19)
  u = sub bx ax tt

  v : Is w64 (g.by -ℤ g.ay) (bits g.by ⊖ bits g.ay) (2 ^ 20)
  v = sub by ay tt

  -- where the line through A stands, to the right
  at_A : Is w64 ((g.by -ℤ g.ay) *ℤ g.ax -ℤ (g.bx -ℤ g.ax) *ℤ g.ay) ((bits g.by ⊖ bits g.ay) ⊗ bits g.ax ⊖ (bits g.bx ⊖ bits g.ax) ⊗ bits g.ay) (2 ^ 39)
  at_A = sub (mul v ax tt) (mul u ay tt) tt

  -- the ends are one point, or two
  one_point : bits g.ax ≡ bits g.bx → bits g.ay ≡ bits g.by → same (pt g.ax g.ay) (pt g.bx g.by) ≡ true
  one_point p q = and_true (eq_z g.ax g.bx) (eq_z g.ay g.by) ((eq_iff g.ax g.bx).1 (eq_yes ax bx p)) ((eq_iff g.ay g.by).1 (eq_yes ay by q))

  two_across : ¬ (bits g.ax ≡ bits g.bx) → same (pt g.ax g.ay) (pt g.bx g.by) ≡ false
  two_across p = sym (false_and (eq_z g.ax g.bx) (eq_z g.ay g.by) (not_eqz g.ax g.bx (λ e. p (eq_bits ax bx e))))

  two_up : ¬ (bits g.ay ≡ bits g.by) → same (pt g.ax g.ay) (pt g.bx g.by) ≡ false
  two_up p = and_false (eq_z g.ax g.bx) (eq_z g.ay g.by) (not_eqz g.ay g.by (λ e. p (eq_bits ay by e)))

  -- how far out the pen reaches, and the two lines
  module _ (cs : List Pt) {r : ℤ} (small : Abs r (2 ^ 28)) where
    reach_right : r ≡ furthest (to_z w64 (bits g.by ⊖ bits g.ay)) (neg_ℤ (to_z w64 (bits g.bx ⊖ bits g.ax))) cs →
        Is w64 (furthest (g.by -ℤ g.ay) (neg_ℤ (g.bx -ℤ g.ax)) cs) (bits r) (2 ^ 28)
    reach_right h =
        let e = h ∙ ap₂ (λ (p q : ℤ). furthest p (neg_ℤ q) cs) v.reads u.reads in
        got (abs_fits small tt) e (subst (λ (z : ℤ). Abs z (2 ^ 28)) e small)

    reach_left : r ≡ furthest (neg_ℤ (to_z w64 (bits g.by ⊖ bits g.ay))) (to_z w64 (bits g.bx ⊖ bits g.ax)) cs →
        Is w64 (furthest (neg_ℤ (g.by -ℤ g.ay)) (g.bx -ℤ g.ax) cs) (bits r) (2 ^ 28)
    reach_left h =
        let e = h ∙ ap₂ (λ (p q : ℤ). furthest (neg_ℤ p) q cs) v.reads u.reads in
        got (abs_fits small tt) e (subst (λ (z : ℤ). Abs z (2 ^ 28)) e small)

    line_right : r ≡ furthest (to_z w64 (bits g.by ⊖ bits g.ay)) (neg_ℤ (to_z w64 (bits g.bx ⊖ bits g.ax))) cs →
        Is w64 (touching cs (pt g.ax g.ay) (g.by -ℤ g.ay) (neg_ℤ (g.bx -ℤ g.ax))).c
        (bits (pos 8) ⊗ bits r ⊕ ((bits g.by ⊖ bits g.ay) ⊗ bits g.ax ⊖ (bits g.bx ⊖ bits g.ax) ⊗ bits g.ay)) (2 ^ 40)
    line_right h =
        weaken (leb→le _ _ tt) (add (mul (num (pos 8) tt) (reach_right h) tt) (along (to_right (g.bx -ℤ g.ax) (g.by -ℤ g.ay) g.ax g.ay) at_A) tt)

    line_left : r ≡ furthest (neg_ℤ (to_z w64 (bits g.by ⊖ bits g.ay))) (to_z w64 (bits g.bx ⊖ bits g.ax)) cs →
        Is w64 (touching cs (pt g.ax g.ay) (neg_ℤ (g.by -ℤ g.ay)) (g.bx -ℤ g.ax)).c
        (bits (pos 8) ⊗ bits r ⊖ ((bits g.by ⊖ bits g.ay) ⊗ bits g.ax ⊖ (bits g.bx ⊖ bits g.ax) ⊗ bits g.ay)) (2 ^ 40)
    line_left h =
        let F = furthest (neg_ℤ (g.by -ℤ g.ay)) (g.bx -ℤ g.ax) cs in
        let d = dot (neg_ℤ (g.by -ℤ g.ay)) (g.bx -ℤ g.ax) (pt g.ax g.ay) in
        along (ap (λ (z : ℤ). pos 8 *ℤ F +ℤ z) (sym (neg_neg d)))
        (weaken (leb→le _ _ tt) (sub (mul (num (pos 8) tt) (reach_left h) tt) (along (to_left (g.bx -ℤ g.ax) (g.by -ℤ g.ay) g.ax g.ay) at_A) tt))

pub returns-then-g-2-clause-answer : goal.returns-then-g-2-clause-answer
returns-then-g-2-clause-answer c =
    let r = c.args in
    no_path (corners r.n r.xs.now r.ys.now) (ends r.g) (pos 0) (left r.s) (one_point c.requires.near c.if-g.true c.if-g-2.true)

pub overflow_mul-at_a : goal.overflow_mul-at_a
overflow_mul-at_a c = mul_fits (v c.requires.near) (ax c.requires.near) tt

pub overflow_mul-at_a-2 : goal.overflow_mul-at_a-2
overflow_mul-at_a-2 c = mul_fits (u c.requires.near) (ay c.requires.near) tt

pub overflow_sub-at_a : goal.overflow_sub-at_a
overflow_sub-at_a c = let n = c.requires.near in sub_fits (mul (v n) (ax n) tt) (mul (u n) (ay n) tt) tt

pub overflow_add-out : goal.overflow_add-out
overflow_add-out c =
    let n = c.requires.near in
    let o = c.furthest-out.ensures in
    add_fits (mul (num (pos 8) tt) (reach_right n _ o.small.right_small o.right) tt) (at_A n) tt

pub narrow-right-requires-clause-side : goal.narrow-right-requires-clause-side
narrow-right-requires-clause-side c =
    let n = c.requires.near in
    let o = c.furthest-out.ensures in
    record { num_small = bound (line_right n _ o.small.right_small o.right); by_small = bound (v n) }

pub overflow_sub-out : goal.overflow_sub-out
overflow_sub-out c =
    let n = c.requires.near in
    let o = c.furthest-out.ensures in
    sub_fits (mul (num (pos 8) tt) (reach_left n _ o.small.left_small o.left) tt) (at_A n) tt

pub narrow-requires-clause-side : goal.narrow-requires-clause-side
narrow-requires-clause-side c =
    let n = c.requires.near in
    let o = c.furthest-out.ensures in
    record { num_small = bound (line_left n _ o.small.left_small o.left); by_small = bound (opposite (v n) tt) }

pub returns-clause-answer : goal.returns-clause-answer
returns-clause-answer c =
    let r = c.args in
    let n = c.requires.near in
    let o = c.furthest-out.ensures in
    let cs = corners r.n r.xs.now r.ys.now in
    let side : Left → ℤ → ℤ → ℤ → Left = λ l a b c. narrow (pos 0) (record { a = a; b = b; c = c }) l in
    let differ : same (pt r.g.ax r.g.ay) (pt r.g.bx r.g.by) ≡ false = elim c.else-g.branch [
      | else-g-via-then-g+else-g-2 w ↦ two_up n w.if-g-2.false
      | else-g-via-else-g w ↦ two_across n w.if-g.false
    ] in
    let d = c.narrow-right.ensures.answer ∙ ap₃ (side (left r.s)) (v n).reads (opposite (u n) tt).reads (line_right n cs o.small.right_small o.right).reads in
    let e = c.narrow.ensures.answer ∙ ap₃ (side (left c.narrow-right.result)) (opposite (v n) tt).reads (u n).reads (line_left n cs o.small.left_small o.left).reads in
    e ∙ ap (narrow (pos 0) (touching cs (pt r.g.ax r.g.ay) (neg_ℤ (r.g.by -ℤ r.g.ay)) (r.g.bx -ℤ r.g.ax))) d
    ∙ two_paths cs (ends r.g) (pos 0) (left r.s) differ
