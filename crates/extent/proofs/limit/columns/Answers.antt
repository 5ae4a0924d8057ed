-- The two quotients are the limits of the definition.
use Rattle.std.proofs.Common.{◌≡◌, ◌∙◌, sym, ap₂, subst, true, false, Some, ◌^◌, ◌+◌, ℤ, pos, ◌+ℤ◌, to_z, w64}
use borrow.Author.Tests.{not-false}
use Rattle.integers.specs.Floor.{floor_div}
use Rattle.integers.proofs.Machine.{Is, known, num, mul, add, floor, le_z_at}
use Rattle.integers.proofs.Words.{bits, ◌⊕◌, ◌⊗◌}
use Rattle.extent.specs.declared.limit.Fraction.{Fraction}
use Rattle.extent.specs.Answer.{spanned}
use Rattle.extent.specs.Held.{last_to, Limiting, FairLimit}
use Rattle.extent.proofs.Narrow.{columns_between}
use Rattle.extent.proofs.limit.columns.Goals as goal

-- a limit's last column, as the code divides
quotient : {f : Fraction} {r : ℤ} → Limiting f → r ≡ floor_div (to_z w64 (bits f.num)) (to_z w64 (bits (pos 16) ⊗ bits f.by)) → Is w64 (last_to f.num f.by) (bits r) (2 ^ 40)
quotient h e = floor (known h.fair.num_small tt) (mul (num (pos 16) tt) (known h.fair.by_small tt) tt) e

-- and the first column past it
past : {f : Fraction} {r : ℤ} → Limiting f → r ≡ floor_div (to_z w64 (bits f.num)) (to_z w64 (bits (pos 16) ⊗ bits f.by)) →
    Is w64 (last_to f.num f.by +ℤ pos 1) (bits r ⊕ bits (pos 1)) (2 ^ 40 + 1)
past h e = add (quotient h e) (num (pos 1) tt) tt

pub returns-then-first-last : goal.returns-then-first-last
returns-then-first-last c =
    let p : c.args.s.least ≡ Some c.in_ok-least.least = c.in_ok-least.was in
    let q : c.args.s.most ≡ Some c.in_ok-most.most = c.in_ok-most.was in
    let f = past (subst FairLimit p c.requires.least) c.floor_div-first.ensures in
    let l = quotient (subst FairLimit q c.requires.most) c.floor_div-last.ensures in
    ap₂ spanned f.reads l.reads ∙ sym (columns_between c.args.s (not-false _ c.if-not-s.false) p q true (sym (le_z_at f l) ∙ c.if-first-last.true))

pub returns-else-first-last : goal.returns-else-first-last
returns-else-first-last c =
    let p : c.args.s.least ≡ Some c.in_ok-least.least = c.in_ok-least.was in
    let q : c.args.s.most ≡ Some c.in_ok-most.most = c.in_ok-most.was in
    let f = past (subst FairLimit p c.requires.least) c.floor_div-first.ensures in
    let l = quotient (subst FairLimit q c.requires.most) c.floor_div-last.ensures in
    sym (columns_between c.args.s (not-false _ c.if-not-s.false) p q false (sym (le_z_at f l) ∙ c.if-first-last.false))
