-- The definition's two numbers and its test.
use Rattle.std.proofs.Common.{◌≡◌, ◌∙◌, refl, sym, ap₂, subst, rules, ◌^◌, ℕ, ℤ, pos, ◌-ℤ◌, to_z, of_z, w64, FitsSigned}
use borrow.Author.Rules.{sfits_of}
use mir.Val.{hbits}
use Rattle.std.specs.Int.{int_max, int_min}
use Rattle.integers.specs.Compare.{min_z, max_z}
use Rattle.integers.proofs.Greater.{int_max_is, int_min_is}
use Rattle.integers.proofs.Machine.{Is, par, num, of_nat, sub, any, le_z_at, to_nat}
use Rattle.integers.proofs.Words.{bits, ◌⊖◌}
use Rattle.limits.specs.Sizes.{Size}
use Rattle.cuts.specs.Cuts.{cut_from}
use Rattle.cuts.proofs.cut.cut_span.Goals as goal

-- what a call answered
answer : {r z : ℤ} → FitsSigned w64 r → r ≡ z → Is w64 z (of_z w64 r) (2 ^ hbits w64)
answer f e = any e (subst (FitsSigned w64) e f)

-- the two columns as numbers
left : {first r : ℤ} → FitsSigned w64 first → FitsSigned w64 r → r ≡ int_max (to_z w64 (of_z w64 first)) (pos 0) → Is w64 (max_z first (pos 0)) (of_z w64 r) (2 ^ hbits w64)
left {first} f g e = answer g (e ∙ int_max_is (to_z w64 (of_z w64 first)) (pos 0) ∙ ap₂ max_z (par {w = w64} f).reads refl)

right : {last r : ℤ} {columns : ℕ} → FitsSigned w64 last → Size columns → FitsSigned w64 r → r ≡ int_min (to_z w64 (of_z w64 last)) (to_z w64 (columns ⊖ bits (pos 1))) →
    Is w64 (min_z last (pos columns -ℤ pos 1)) (of_z w64 r) (2 ^ hbits w64)
right {last} {columns = columns} f s g e = answer g (e ∙ int_min_is (to_z w64 (of_z w64 last)) (to_z w64 (columns ⊖ bits (pos 1))) ∙ ap₂ min_z (par {w = w64} f).reads (sub (of_nat {w = w64} columns s.few tt) (num (pos 1) tt) tt).reads)

pub returns-then-l-r : goal.returns-then-l-r
returns-then-l-r c =
    let first : FitsSigned w64 c.args.e.first = search rules in
    let last : FitsSigned w64 c.args.e.last = search rules in
    let l = left first (sfits_of c.max-l.type_inv) c.max-l.ensures.value in
    let r = right last c.requires (sfits_of c.min-r.type_inv) c.min-r.ensures.value in
    rw (sym (le_z_at l r) ∙ c.if-l-r.true) (ap₂ cut_from (to_nat l) (to_nat r))

pub returns : goal.returns
returns c =
    let first : FitsSigned w64 c.args.e.first = search rules in
    let last : FitsSigned w64 c.args.e.last = search rules in
    let l = left first (sfits_of c.max-l.type_inv) c.max-l.ensures.value in
    let r = right last c.requires (sfits_of c.min-r.type_inv) c.min-r.ensures.value in
    rw (sym (le_z_at l r) ∙ c.if-l-r.false)
