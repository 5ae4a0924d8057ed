-- What a scanner hears: inside a command nothing, behind it the command, and of bytes that no command has, or that are cut off, the place.
use Prim.Native.Nat.{ℕ, suc, ◌+◌, ◌^◌, ◌<◌}
use native.Mathlib.Omega.{arith}
use mathlib.Core.Path.{◌≡◌, refl, sym, ap, ap₂, ◌∙◌}
use mathlib.Core.Bool.{Bool, true, false, cond}
use mathlib.Core.List.{List, [], ◌∷◌, ◌++◌}
use mathlib.Core.Option.{none, some}
use lib.ListN.{length}
use lib.IntN.{ℤ}
use Rattle.integers.proofs.Tests.{clash}
use Rattle.scan.specs.declared.Mode.{Mode}
use Rattle.scan.specs.declared.Mode.TheVariants.{Bad, Outside}
use Rattle.scan.specs.declared.Scanner.{Scanner}
use Rattle.scan.specs.Next.{next}
use Rattle.scan.specs.Scanner.{counted, start_of, x_of, y_of, stepped, Heard, heard_by, is_ended, heard}
use Rattle.language.specs.Grammar.{Phase}
use Rattle.language.proofs.Inside.{is_inside, inside_cases, upto, upto_inside, upto_outside}
use Rattle.language.proofs.Walks.{State, state, read, Ends, last, before}
use Rattle.language.proofs.Rests.{gap_of, Rests}

-- a file of fewer than 2^64 bytes is counted
pub counted_one : (i : ℕ) → suc i < 2 ^ 64 → counted i ≡ suc i
counted_one i h = omega arith

-- ---- inside a command nothing is heard, its start is kept, and the file may not end
module _ (m : Mode) (i : is_inside m ≡ true) where
  inside_silent : (s : Scanner) (h : Heard) → heard_by m s h ≡ h
  inside_silent s h = inside_cases (λ m. heard_by m s h ≡ h) (λ a sign n v. refl) (λ p. refl) m i

  inside_start : (at start : ℕ) → start_of m at start ≡ start
  inside_start at start = inside_cases (λ m. start_of m at start ≡ start) (λ a sign n v. refl) (λ p. refl) m i

  inside_not_ended : is_ended m ≡ false
  inside_not_ended = inside_cases (λ m. is_ended m ≡ false) (λ a sign n v. refl) (λ p. refl) m i

-- ---- what is heard from the last byte on
abbrev pub heard_from : Scanner → List ℕ → Heard
heard_from s l = heard_by s.mode s (heard s l)

from_inside : (s : Scanner) → is_inside s.mode ≡ true → (b : ℕ) (l : List ℕ) → heard_from s (b ∷ l) ≡ heard_from (stepped s b) l
unfolding heard
from_inside s i b l = inside_silent s.mode i s (heard s (b ∷ l))

-- bytes that come to Bad are refused at the command's start
pub bad_heard : (l : List ℕ) (s : Scanner) → upto s.mode l ≡ Bad → heard_from s l ≡ record { said = []; bad = some s.start }
unfolding upto stepped
bad_heard [] s e = ap (λ (m : Mode). heard_by m s (heard s [])) e
bad_heard (b ∷ l) s e = go (is_inside s.mode) refl (bad_heard l (stepped s b))
  where
    go : (t : Bool) → is_inside s.mode ≡ t → (upto (next s.mode b) l ≡ Bad → heard_from (stepped s b) l ≡ record { said = []; bad = some (stepped s b).start }) →
        heard_from s (b ∷ l) ≡ record { said = []; bad = some s.start }
    go true i f =
        from_inside s i b l ∙ f (sym (upto_inside s.mode i b l) ∙ e) ∙
        ap (λ (n : ℕ). record { said = []; bad = some n }) (inside_start s.mode i s.at s.start)
    go false i f = ap (λ (m : Mode). heard_by m s (heard s (b ∷ l))) (sym (upto_outside s.mode i (b ∷ l)) ∙ e)

-- where the bytes end inside a command, the place is that of the end
pub cut_heard : (l : List ℕ) (s : Scanner) → is_inside (upto s.mode l) ≡ true → s.at + length l < 2 ^ 64 → heard_from s l ≡ record { said = []; bad = some (s.at + length l) }
unfolding upto stepped heard
cut_heard [] s i h =
    inside_silent s.mode i s (heard s []) ∙ ap (λ (t : Bool). record { said = []; bad = cond t none (some s.at) }) (inside_not_ended s.mode i) ∙
    ap (λ (n : ℕ). record { said = []; bad = some n }) (omega arith)
cut_heard (b ∷ l) s e h = go (is_inside s.mode) refl (cut_heard l (stepped s b))
  where
    one : counted s.at ≡ suc s.at
    one = counted_one s.at (omega arith)

    go : (t : Bool) → is_inside s.mode ≡ t →
        (is_inside (upto (next s.mode b) l) ≡ true → (stepped s b).at + length l < 2 ^ 64 → heard_from (stepped s b) l ≡ record { said = []; bad = some ((stepped s b).at + length l) }) →
        heard_from s (b ∷ l) ≡ record { said = []; bad = some (s.at + length (b ∷ l)) }
    go true i f =
        from_inside s i b l ∙ f (ap is_inside (sym (upto_inside s.mode i b l)) ∙ e) (omega (arith, one)) ∙
        ap (λ (n : ℕ). record { said = []; bad = some n }) (omega (arith, one))
    go false i f = absurd (clash e (ap is_inside (upto_outside s.mode i (b ∷ l)) ∙ i))

-- ---- a whole command is heard from its last byte on
abbrev pub scanner : State → ℕ → ℕ → Scanner
scanner t i s = record { mode = t.mode; at = i; start = s; x = t.x; y = t.y }

one_byte : (t : State) (i s b : ℕ) → suc i < 2 ^ 64 → stepped (scanner t i s) b ≡ scanner (read t b) (suc i) (start_of t.mode i s)
unfolding stepped
one_byte t i s b h = ap (λ (j : ℕ). scanner (read t b) j (start_of t.mode i s)) (counted_one i h)

pub ends_heard : {t u : State} {w : List ℕ} → Ends t w u → (i s : ℕ) (l : List ℕ) → i + length w < 2 ^ 64 →
    heard (scanner t i s) (w ++ l) ≡ heard_from (scanner u (i + length w) (start_of t.mode i s)) l
unfolding heard
ends_heard {t} (last b e) i s l h =
    ap (λ (z : Scanner). heard_from z l) (one_byte t i s b (omega arith)) ∙
    ap (λ (j : ℕ). heard_from (scanner (read t b) j (start_of t.mode i s)) l) (omega arith)
ends_heard {t} {u} (before {l = w} b e r) i s l h =
    ap (λ (z : Scanner). heard_from z (w ++ l)) (one_byte t i s b (omega arith)) ∙
    inside_silent (read t b).mode e (scanner (read t b) (suc i) (start_of t.mode i s)) (heard (scanner (read t b) (suc i) (start_of t.mode i s)) (w ++ l)) ∙
    ends_heard r (suc i) (start_of t.mode i s) l (omega arith) ∙
    ap₂ (λ (j k : ℕ). heard_from (scanner u j k) l) (omega arith) (inside_start (read t b).mode e (suc i) (start_of t.mode i s))

-- ---- at rest only the phase, the place and the numbers count
abbrev pub resting : Phase → ℕ → ℤ → ℤ → Scanner
resting p i x y = scanner (state (Outside (gap_of p)) x y) i i

pub rest_heard : {p : Phase} (s : Scanner) → Rests p s.mode → (l : List ℕ) → heard s l ≡ heard (resting p s.at s.x s.y) l
unfolding heard stepped
rest_heard s r [] = ap (λ (t : Bool). record { said = []; bad = cond t none (some s.at) }) r.ends
rest_heard s r (b ∷ l) =
    ap₂ (λ (m : Mode) (start : ℕ). heard_from (record { mode = m; at = counted s.at; start = start; x = x_of m s.x; y = y_of m s.y }) l) (r.same b) (r.starts s.at s.start)
