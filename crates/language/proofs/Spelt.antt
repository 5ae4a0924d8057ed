-- Each command that Grammar spells, followed: the scanner is inside it until its last byte, and then at rest, with the command and its numbers.
use Prim.Native.Nat.{ℕ, ◌+◌, ◌*◌, ◌≤◌}
use native.Mathlib.Omega.{arith}
use mathlib.Core.Path.{◌≡◌, refl, ap}
use mathlib.Core.Bool.{Bool}
use mathlib.Core.List.{List, ◌++◌}
use lib.IntN.{ℤ}
use borrow.Author.Tests.{lt-ltb, ne_eqb}
use Rattle.text.specs.Ascii.{ascii}
use Rattle.scan.specs.declared.Mode.{Mode}
use Rattle.scan.specs.declared.Mode.TheVariants as mode·
use Rattle.scan.specs.declared.Gap.TheVariants as gap·
use Rattle.scan.specs.declared.Command.TheVariants as command·
use Rattle.scan.specs.declared.Part.TheVariants as part·
use Rattle.scan.specs.Next.{next, pick}
use Rattle.language.specs.Grammar.{Digits, digit, one, then, NoStar, no_byte, no_star, Form, format, units, comment, linear, closing}
use Rattle.language.specs.Grammar.{choice, moving, drawing, Spelled, spelled_format, spelled_units, spelled_comment, spelled_linear, spelled_choice}
use Rattle.language.specs.Grammar.{spelled_drawing, spelled_moving, spelled_closing, Phase, second, Allowed, allowed_format, allowed_units, allowed_comment}
use Rattle.language.specs.Grammar.{allowed_linear, allowed_choice, allowed_moving, allowed_drawing, allowed_closing, last_x, last_y}
use Rattle.language.proofs.Rests.{gap_of, Rests, gap_rests}
use Rattle.language.proofs.Walks.{state, Goes, stays, Ends, last, before, goes_append, goes_ends, goes_one}
use Rattle.language.proofs.Numbers.{is_digit_lem, digit_of_lem}
use Rattle.language.proofs.Axes.{line_ends, move_ends, plot_ends}

-- the mode behind the last byte
abbrev pub stop_of : Form → Mode
stop_of format = mode·.Outside gap·.Second
stop_of units = mode·.Whole command·.Nothing
stop_of comment = mode·.Whole command·.Nothing
stop_of linear = mode·.Whole command·.Nothing
stop_of closing = mode·.Whole command·.End
stop_of (choice n) = mode·.Whole (command·.Choose n)
stop_of (moving u v) = mode·.Whole command·.Move
stop_of (drawing u v) = mode·.Whole command·.Line

-- behind a command the scanner is at rest in the next phase
pub stop_rests : {p q : Phase} {f : Form} → Allowed p f q → Rests q (stop_of f)
stop_rests allowed_format = gap_rests second
stop_rests allowed_units = record { same = λ b. refl; starts = λ i s. refl; ends = refl }
stop_rests allowed_comment = record { same = λ b. refl; starts = λ i s. refl; ends = refl }
stop_rests allowed_linear = record { same = λ b. refl; starts = λ i s. refl; ends = refl }
stop_rests (allowed_choice n) = record { same = λ b. refl; starts = λ i s. refl; ends = refl }
stop_rests (allowed_moving x y) = record { same = λ b. refl; starts = λ i s. refl; ends = refl }
stop_rests (allowed_drawing x y) = record { same = λ b. refl; starts = λ i s. refl; ends = refl }
stop_rests allowed_closing = record { same = λ b. refl; starts = λ i s. refl; ends = refl }

-- ---- a comment: each byte of its text leaves it a comment
text_goes : (x y : ℤ) {t : List ℕ} → NoStar t → Goes (state (mode·.Inside part·.Comment) x y) t (state (mode·.Inside part·.Comment) x y)
text_goes x y no_byte = stays
text_goes x y (no_star {b} n s) =
    goes_append (goes_one x y b (ap (λ (t : Bool). pick t (mode·.Whole command·.Nothing) (mode·.Inside part·.Comment)) (ne_eqb b 42 n)) refl) (text_goes x y s)

-- ---- a choice: two digits, the first of them not 0
digits_some : {l : List ℕ} {n v : ℕ} → Digits l n v → 1 ≤ n
digits_some (one d) = omega arith
digits_some (then ds d) = omega arith

tens_next : (t : ℕ) → t ≤ 9 → 1 ≤ t → next (mode·.Inside part·.D) (48 + t) ≡ mode·.Inside (part·.Tens t)
tens_next t h i = simp (ne_eqb (48 + t) 48 (λ e. omega arith), is_digit_lem t h, digit_of_lem t)

unit_next : (t d : ℕ) → t ≤ 9 → d ≤ 9 → next (mode·.Inside (part·.Tens t)) (48 + d) ≡ mode·.Inside (part·.Aperture (10 * t + d))
unit_next t d h i = simp (is_digit_lem d i, lt-ltb t 10 (omega arith), digit_of_lem d)

choice_goes : (x y : ℤ) {l : List ℕ} {k n : ℕ} → Digits l k n → k ≡ 2 → 10 ≤ n → Goes (state (mode·.Inside part·.D) x y) l (state (mode·.Inside (part·.Aperture n)) x y)
choice_goes x y (one d) e h = absurd (omega arith)
choice_goes x y (then (one (digit t i)) (digit d j)) e h = goes_append (goes_one x y (48 + t) (tens_next t i (omega arith)) refl) (goes_one x y (48 + d) (unit_next t d i j) refl)
choice_goes x y (then (then ds b) c) e h = let i = digits_some ds in absurd (omega arith)

-- ---- each command
module _ (x y : ℤ) where
  format_ends : Ends (state (mode·.Outside gap·.First) x y) (ascii "%FSLAX36Y36*%") (state (mode·.Outside gap·.Second) x y)
  unfolding ascii
  format_ends =
      before 37 refl (before 70 refl (before 83 refl (before 76 refl (before 65 refl (before 88 refl (before 51 refl (before 54 refl (before 89 refl (before 51 refl
      (before 54 refl (before 42 refl (last 37 refl))))))))))))

  units_ends : Ends (state (mode·.Outside gap·.Second) x y) (ascii "%MOMM*%") (state (mode·.Whole command·.Nothing) x y)
  unfolding ascii
  units_ends = before 37 refl (before 77 refl (before 79 refl (before 77 refl (before 77 refl (before 42 refl (last 37 refl))))))

  comment_ends : (t : List ℕ) → NoStar t → Ends (state (mode·.Outside gap·.Between) x y) (ascii "G04" ++ t ++ ascii "*") (state (mode·.Whole command·.Nothing) x y)
  unfolding ascii
  comment_ends t s = before 71 refl (before 48 refl (before 52 refl (goes_ends (text_goes x y s) (last 42 refl))))

  linear_ends : Ends (state (mode·.Outside gap·.Between) x y) (ascii "G01*") (state (mode·.Whole command·.Nothing) x y)
  unfolding ascii
  linear_ends = before 71 refl (before 48 refl (before 49 refl (last 42 refl)))

  choice_ends : {l : List ℕ} {n : ℕ} → Digits l 2 n → 10 ≤ n → Ends (state (mode·.Outside gap·.Between) x y) (ascii "D" ++ l ++ ascii "*") (state (mode·.Whole (command·.Choose n)) x y)
  unfolding ascii
  choice_ends ds h = before 68 refl (goes_ends (choice_goes x y ds refl h) (last 42 refl))

  closing_ends : Ends (state (mode·.Outside gap·.Between) x y) (ascii "M02*") (state (mode·.Whole command·.End) x y)
  unfolding ascii
  closing_ends = before 77 refl (before 48 refl (before 50 refl (last 42 refl)))

pub spelt : {p q : Phase} {f : Form} {w : List ℕ} → Allowed p f q → Spelled f w → (x y : ℤ) → Ends (state (mode·.Outside (gap_of p)) x y) w (state (stop_of f) (last_x f x) (last_y f y))
spelt allowed_format spelled_format x y = format_ends x y
spelt allowed_units spelled_units x y = units_ends x y
spelt allowed_comment (spelled_comment t s) x y = comment_ends x y t s
spelt allowed_linear spelled_linear x y = linear_ends x y
spelt (allowed_choice n) (spelled_choice ds h) x y = choice_ends x y ds (omega arith)
spelt (allowed_moving u v) (spelled_moving h i) x y = plot_ends x y (mode·.Whole command·.Move) move_ends h i
spelt (allowed_drawing u v) (spelled_drawing h i) x y = plot_ends x y (mode·.Whole command·.Line) line_ends h i
spelt allowed_closing spelled_closing x y = closing_ends x y
