-- Every file is read in some way: byte after byte it is skipped, or a command starts, or one is cut off, or it is refused.
use Prim.Native.Nat.{ℕ, zero, suc, ◌+◌, ◌≤◌}
use native.Mathlib.Omega.{arith}
use mathlib.Core.Path.{◌≡◌, refl, ap, subst}
use mathlib.Core.Bool.{Bool, true, false}
use mathlib.Core.List.{List, [], ◌∷◌, ◌++◌}
use mathlib.Core.Option.{Option}
use lib.ListN.{length, length-append}
use Rattle.integers.proofs.Tests.{clash}
use Rattle.scan.specs.declared.Mode.TheVariants.{Bad, Outside}
use Rattle.scan.specs.Next.{next, is_line_end}
use Rattle.language.specs.Grammar.{Phase, first, second, commands, ended, Placed, Reads, whole, skipped, command, missing, cut, other}
use Rattle.language.proofs.Inside.{upto}
use Rattle.language.proofs.Found.{Found}
use Rattle.language.proofs.Found as found·
use Rattle.language.proofs.Commands.{Command, phase_found}
use Rattle.language.proofs.Rests.{gap_of, not_ended, line_end, is_line_end_lem}
use Rattle.language.proofs.Comes.{starts_good, begins_good}

-- these bytes are read in some way
pub record Read (p : Phase) (i : ℕ) (l : List ℕ) : Type 0 where
  pub forms : List Placed
  pub bad : Option ℕ
  pub reads : Reads p i l forms bad

-- none are left
no_more : (p : Phase) (i : ℕ) → Read p i []
no_more first i = record { forms = _; bad = _; reads = missing i (not_ended first refl) }
no_more second i = record { forms = _; bad = _; reads = missing i (not_ended second refl) }
no_more commands i = record { forms = _; bad = _; reads = missing i (not_ended commands refl) }
no_more ended i = record { forms = _; bad = _; reads = whole i }

module _ (p : Phase) (i b : ℕ) (l : List ℕ) where
  -- a line end
  skip : is_line_end b ≡ true → Read p (suc i) l → Read p i (b ∷ l)
  skip e r = record { forms = _; bad = _; reads = skipped (is_line_end_lem b e) r.reads }

  -- bytes that start no command
  refuse : is_line_end b ≡ false → upto (next (Outside (gap_of p)) b) l ≡ Bad → Read p i (b ∷ l)
  refuse e bad =
      record {
        forms = _;
        bad = _;
        reads = other i b l (λ h. clash (line_end b h) e) (λ q f w m g a s. starts_good a s b l m g bad) (λ q f m a s. begins_good a b l m s bad);
      }

  -- a command, and what follows it
  go_on : (w k : List ℕ) → w ++ k ≡ l → (c : Command p (b ∷ w)) → Read c.after (i + length (b ∷ w)) k → Read p i (b ∷ l)
  go_on w k e c r = subst (λ (l : List ℕ). Read p i (b ∷ l)) e (record { forms = _; bad = _; reads = command (b ∷ w) c.allowed c.spelled r.reads })

  -- a byte, and what is known of fewer
  byte_read : ((q : Phase) (j : ℕ) (k : List ℕ) → length k ≤ length l → Read q j k) → Read p i (b ∷ l)
  byte_read f = by (is_line_end b) refl
    where
      found : is_line_end b ≡ false → Found (next (Outside (gap_of p)) b) (λ w. Command p (b ∷ w)) l → Read p i (b ∷ l)
      found e (found·.refused h) = refuse e h
      found e (found·.whole w k h c) = go_on w k h c (f c.after (i + length (b ∷ w)) k (omega (arith, length-append w k, ap length h)))
      found e (found·.part c k h) = record { forms = _; bad = _; reads = cut i b c l k h.allowed h.spelled }

      by : (t : Bool) → is_line_end b ≡ t → Read p i (b ∷ l)
      by true e = skip e (f p (suc i) l (omega arith))
      by false e = found e (phase_found b e l p)

-- with as many steps as there are bytes
pub each_read : (n : ℕ) (p : Phase) (i : ℕ) (l : List ℕ) → length l ≤ n → Read p i l
each_read zero p i [] h = no_more p i
each_read zero p i (b ∷ l) h = absurd (omega arith)
each_read (suc n) p i [] h = no_more p i
each_read (suc n) p i (b ∷ l) h = byte_read p i b l (λ q j k e. each_read n q j k (omega arith))
