-- What a scanner at rest hears is what the bytes say.
use Prim.Native.Nat.{ℕ, suc, ◌+◌, ◌^◌, ◌<◌}
use native.Mathlib.Omega.{arith}
use mathlib.Core.Path.{◌≡◌, refl, ap, ◌∙◌}
use mathlib.Core.Bool.{Bool, false, cond}
use mathlib.Core.List.{List, [], ◌∷◌, ◌++◌}
use mathlib.Core.Option.{Option, none, some}
use lib.ListN.{length, length-append}
use lib.IntN.{ℤ}
use Rattle.scan.specs.declared.Mode.{Mode}
use Rattle.scan.specs.declared.Mode.TheVariants.{Outside}
use Rattle.scan.specs.declared.Scanner.{Scanner}
use Rattle.scan.specs.Scanner.{counted, x_of, y_of, stepped, Heard, heard_by, is_ended, heard}
use Rattle.language.specs.Grammar.{Form, format, units, comment, linear, closing, choice, moving, drawing, Spelled, Phase, Allowed, LineEnd, Placed, Reads}
use Rattle.language.specs.Grammar.{whole, skipped, command, missing, cut, other, says, last_x, last_y, said_by, said}
use Rattle.language.proofs.Commands.{no_command_bad}
use Rattle.language.proofs.Walks.{state}
use Rattle.language.proofs.Spelt.{stop_of, stop_rests, spelt}
use Rattle.language.proofs.Rests.{gap_of, gap_rests, ended_not, line_end, line_end_stays}
use Rattle.language.proofs.Comes.{cut_inside}
use Rattle.language.proofs.Heard.{counted_one, heard_from, bad_heard, cut_heard, scanner, ends_heard, resting, rest_heard}

-- what is heard behind a command is what it says, before what is heard later
told : (f : Form) (x y : ℤ) (i j : ℕ) (h : Heard) →
    heard_by (stop_of f) (scanner (state (stop_of f) (last_x f x) (last_y f y)) j i) h ≡ record { said = said_by (record { place = i; behind = j; form = f }) (says f x y) h.said; bad = h.bad }
told format x y i j h = refl
told units x y i j h = refl
told comment x y i j h = refl
told linear x y i j h = refl
told closing x y i j h = refl
told (choice n) x y i j h = refl
told (moving u v) x y i j h = refl
told (drawing u v) x y i j h = refl

module _ (p : Phase) (i : ℕ) (x y : ℤ) where
  -- a line end is not heard
  skipped_heard : (b : ℕ) (l : List ℕ) → LineEnd b → suc i < 2 ^ 64 → heard (resting p i x y) (b ∷ l) ≡ heard (resting p (suc i) x y) l
  unfolding heard stepped
  skipped_heard b l e h =
      ap (λ (m : Mode). heard_from (record { mode = m; at = counted i; start = i; x = x_of m x; y = y_of m y }) l) (line_end_stays p b (line_end b e)) ∙
      rest_heard (scanner (state (Outside (gap_of p)) x y) (counted i) i) (gap_rests p) l ∙
      ap (λ (j : ℕ). heard (resting p j x y) l) (counted_one i h)

  -- a command, and what is heard behind it
  command_heard : {q : Phase} {f : Form} (w l : List ℕ) → Allowed p f q → Spelled f w → i + length w < 2 ^ 64 → (h : Heard) →
      heard (resting q (i + length w) (last_x f x) (last_y f y)) l ≡ h →
      heard (resting p i x y) (w ++ l) ≡ record { said = said_by (record { place = i; behind = i + length w; form = f }) (says f x y) h.said; bad = h.bad }
  command_heard {q} {f} w l a s few h e =
      let z : Scanner = scanner (state (stop_of f) (last_x f x) (last_y f y)) (i + length w) i in
      ends_heard (spelt a s x y) i i l few ∙ ap (heard_by (stop_of f) z) (rest_heard z (stop_rests a) l ∙ e) ∙ told f x y i (i + length w) h

  -- the end of the file, before M02
  missing_heard : is_ended (Outside (gap_of p)) ≡ false → heard (resting p i x y) [] ≡ record { said = []; bad = some i }
  unfolding heard
  missing_heard e = ap (λ (t : Bool). record { said = []; bad = cond t none (some i) }) e

  -- a command that is cut off
  cut_told : {q : Phase} {f : Form} (b c : ℕ) (l m : List ℕ) → Allowed p f q → Spelled f (b ∷ l ++ (c ∷ m)) → i + length (b ∷ l) < 2 ^ 64 →
      heard (resting p i x y) (b ∷ l) ≡ record { said = []; bad = some (i + length (b ∷ l)) }
  unfolding heard stepped
  cut_told b c l m a s h =
      let one = counted_one i (omega arith) in
      cut_heard l (stepped (resting p i x y) b) (cut_inside a b l c m s) (omega (arith, one)) ∙ ap (λ (n : ℕ). record { said = []; bad = some n }) (omega (arith, one))

  -- bytes that start no command
  other_told : (b : ℕ) (l : List ℕ) → ¬ LineEnd b → ((q : Phase) (f : Form) (w m : List ℕ) → w ++ m ≡ b ∷ l → Allowed p f q → ¬ Spelled f w) →
      ((q : Phase) (f : Form) (m : List ℕ) → Allowed p f q → ¬ Spelled f (b ∷ l ++ m)) → heard (resting p i x y) (b ∷ l) ≡ record { said = []; bad = some i }
  unfolding heard stepped
  other_told b l out no_start no_part = bad_heard l (stepped (resting p i x y) b) (no_command_bad p b l out no_start no_part)

pub reads_heard : {p : Phase} {i : ℕ} {l : List ℕ} {fs : List Placed} {bad : Option ℕ} → Reads p i l fs bad → (x y : ℤ) → i + length l < 2 ^ 64 →
    heard (resting p i x y) l ≡ record { said = said x y fs; bad = bad }
unfolding heard said
reads_heard (whole i) x y h = refl
reads_heard (skipped {p} {i} {b} {l} e r) x y h = skipped_heard p i x y b l e (omega arith) ∙ reads_heard r x y (omega arith)
reads_heard (command {p} {q} {i} {f} {l} {fs} {bad} w a s r) x y h =
    let few : i + (length w + length l) < 2 ^ 64 = rw length-append at h in
    command_heard p i x y w l a s (omega arith) _ (reads_heard r (last_x f x) (last_y f y) (omega arith))
reads_heard (missing {p} i e) x y h = missing_heard p i x y (ended_not p e)
reads_heard (cut {p} i b c l m a s) x y h = cut_told p i x y b c l m a s h
reads_heard (other {p} i b l e f g) x y h = other_told p i x y b l e f g
