-- Between commands: the modes in which none has been begun, by phase; and line ends.
use Prim.Native.Nat.{ℕ}
use native.Mathlib.Omega.{arith}
use mathlib.Core.Path.{◌≡◌, refl, sym, ap, ◌∙◌, subst}
use mathlib.Core.Bool.{Bool, true, false, ◌||◌}
use mathlib.Core.Logic.{inl, inr}
use lib.Dec.{eqb}
use borrow.Author.Tests.{eqb-true}
use Rattle.integers.proofs.Tests.{clash}
use Rattle.scan.specs.declared.Mode.{Mode}
use Rattle.scan.specs.declared.Mode.TheVariants.{Bad, Outside}
use Rattle.scan.specs.declared.Gap.{Gap}
use Rattle.scan.specs.declared.Gap.TheVariants as gap·
use Rattle.scan.specs.Next.{next, is_line_end}
use Rattle.scan.specs.Scanner.{start_of, is_ended}
use Rattle.language.specs.Grammar.{Phase, first, second, commands, ended, LineEnd}

-- the gap before a command
abbrev pub gap_of : Phase → Gap
gap_of first = gap·.First
gap_of second = gap·.Second
gap_of commands = gap·.Between
gap_of ended = gap·.Ended

-- a mode at rest: as that of the phase's gap
pub record Rests (p : Phase) (m : Mode) : Type 0 where
  pub same : (b : ℕ) → next m b ≡ next (Outside (gap_of p)) b
  pub starts : (i s : ℕ) → start_of m i s ≡ i
  pub ends : is_ended m ≡ is_ended (Outside (gap_of p))

pub gap_rests : (p : Phase) → Rests p (Outside (gap_of p))
gap_rests p = record { same = λ b. refl; starts = λ i s. refl; ends = refl }

-- the file may end in the last phase alone
pub not_ended : (p : Phase) → is_ended (Outside (gap_of p)) ≡ false → ¬ (p ≡ ended)
not_ended p h e = clash (ap (λ (p : Phase). is_ended (Outside (gap_of p))) e) h

pub ended_not : (p : Phase) → ¬ (p ≡ ended) → is_ended (Outside (gap_of p)) ≡ false
ended_not first h = refl
ended_not second h = refl
ended_not commands h = refl
ended_not ended h = absurd (h refl)

-- no mode at rest is Bad, since there a start is not kept
pub rests_not_bad : {p : Phase} {m : Mode} → Rests p m → ¬ (m ≡ Bad)
rests_not_bad r e = let z : ◌≡◌ {A = ℕ} 1 0 = sym (r.starts 1 0) ∙ ap (λ (m : Mode). start_of m 1 0) e in omega arith

-- ---- line ends
pub line_end : (b : ℕ) → LineEnd b → is_line_end b ≡ true
line_end b (inl e) = subst (λ (c : ℕ). is_line_end c ≡ true) (sym e) refl
line_end b (inr e) = subst (λ (c : ℕ). is_line_end c ≡ true) (sym e) refl

pub is_line_end_lem : (b : ℕ) → is_line_end b ≡ true → LineEnd b
is_line_end_lem b e = go (eqb b 13) refl (eqb b 10) refl e
  where
    go : (s : Bool) → eqb b 13 ≡ s → (t : Bool) → eqb b 10 ≡ t → (s || t) ≡ true → LineEnd b
    go true f t g h = inl (eqb-true b 13 f)
    go false f true g h = inr (eqb-true b 10 g)
    go false f false g h = absurd (let z : ◌≡◌ {A = ℕ} 0 1 = cc in omega arith)

-- a line end leaves the scanner at rest
pub line_end_stays : (p : Phase) (b : ℕ) → is_line_end b ≡ true → next (Outside (gap_of p)) b ≡ Outside (gap_of p)
line_end_stays first b e = rw e
line_end_stays second b e = rw e
line_end_stays commands b e = rw e
line_end_stays ended b e = rw e
