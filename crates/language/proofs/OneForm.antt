-- Bytes start with at most one spelled command that is allowed in a phase: the scanner tells where it ends and which it is.
use Prim.Native.Nat.{ℕ}
use native.Mathlib.Omega.{arith}
use mathlib.Core.Path.{◌≡◌, refl, sym, ap, ap₂, ◌∙◌}
use mathlib.Core.Bool.{true, false, cond}
use mathlib.Core.List.{List, [], ◌∷◌, ◌++◌}
use mathlib.Core.Option.{Option, none, some}
use lib.Dec.{eqb}
use lib.ListN.{get_or}
use lib.IntN.{ℤ, pos}
use Rattle.integers.proofs.Tests.{clash}
use Rattle.text.specs.Ascii.{ascii}
use Rattle.scan.specs.declared.Mode.{Mode}
use Rattle.scan.specs.declared.Mode.TheVariants.{Bad, Outside, Whole, Number, Inside}
use Rattle.scan.specs.declared.Command.{Command}
use Rattle.scan.specs.declared.Command.TheVariants as command·
use Rattle.language.specs.Grammar.{Form, format, units, comment, linear, closing, choice, moving, drawing, Spelled, spelled_format, spelled_units, spelled_comment}
use Rattle.language.specs.Grammar.{spelled_linear, spelled_choice, spelled_drawing, spelled_moving, spelled_closing, Phase, first, second, commands, ended}
use Rattle.language.specs.Grammar.{Allowed, allowed_format, allowed_units, allowed_comment, allowed_linear, allowed_choice, allowed_moving, allowed_drawing}
use Rattle.language.specs.Grammar.{allowed_closing, kept, last_x, last_y}
use Rattle.language.proofs.Inside.{is_inside}
use Rattle.language.proofs.Walks.{State, state, read, Ends, last, before}
use Rattle.language.proofs.Spelt.{stop_of, spelt}

-- ---- from one state bytes lead out of a command at one place only, since before it each led inside
record Alike (u v : State) (w z k l : List ℕ) : Type 0 where
  words : w ≡ z
  rests : k ≡ l
  states : u ≡ v

-- one byte more in front
further : {u v : State} {w z k l : List ℕ} (b c : ℕ) → b ≡ c → Alike u v w z k l → Alike u v (b ∷ w) (c ∷ z) k l
further b c e a = record { words = ap₂ (λ (b : ℕ) (l : List ℕ). b ∷ l) e a.words; rests = a.rests; states = a.states }

-- the same byte in the same state leads inside both times or neither
in_and_out : {t s : State} {b c : ℕ} → t ≡ s → b ≡ c → is_inside (read t b).mode ≡ true → ¬ (is_inside (read s c).mode ≡ false)
in_and_out e f i j = clash i (ap₂ (λ (t : State) (b : ℕ). is_inside (read t b).mode) e f ∙ j)

-- so the first byte that leads out ends both walks
ends_once : {t s u v : State} {w z : List ℕ} → Ends t w u → Ends s z v → t ≡ s → (k l : List ℕ) → w ++ k ≡ z ++ l → Alike u v w z k l
ends_once (last b i) (last c j) e k l h =
    let f : b ≡ c = cc in
    let g : k ≡ l = cc in
    record { words = ap (λ (b : ℕ). b ∷ []) f; rests = g; states = ap₂ read e f }
ends_once (last b i) (before c j r) e k l h = let f : c ≡ b = cc in absurd (in_and_out (sym e) f j i)
ends_once (before b i r) (last c j) e k l h = let f : b ≡ c = cc in absurd (in_and_out e f i j)
ends_once (before {l = w} b i r) (before {l = z} c j s) e k l h =
    let f : b ≡ c = cc in
    let g : w ++ k ≡ z ++ l = cc in
    further b c f (ends_once r s (ap₂ read e f) k l g)

-- ---- the parts of a form, from what the scanner has behind it
-- an axis that is omitted keeps 0 and 1, and no number is both
kept_same : (u v : Option ℤ) → ((x : ℤ) → kept u x ≡ kept v x) → u ≡ v
kept_same none none h = refl
kept_same none (some z) h = absurd (let e : pos 0 ≡ pos 1 = h (pos 0) ∙ sym (h (pos 1)) in let z : ◌≡◌ {A = ℕ} 0 1 = cc in omega arith)
kept_same (some z) none h = absurd (let e : pos 0 ≡ pos 1 = sym (h (pos 0)) ∙ h (pos 1) in let z : ◌≡◌ {A = ℕ} 0 1 = cc in omega arith)
kept_same (some y) (some z) h = ap some (h (pos 0))

-- the axes of a plot; other commands name none
abbrev x_of : Form → Option ℤ
x_of format = none
x_of units = none
x_of comment = none
x_of linear = none
x_of closing = none
x_of (choice n) = none
x_of (moving u v) = u
x_of (drawing u v) = u

abbrev y_of : Form → Option ℤ
y_of format = none
y_of units = none
y_of comment = none
y_of linear = none
y_of closing = none
y_of (choice n) = none
y_of (moving u v) = v
y_of (drawing u v) = v

-- each command keeps the last numbers of the axes that it does not name
last_x_lem : (f : Form) (x : ℤ) → last_x f x ≡ kept (x_of f) x
last_x_lem format x = refl
last_x_lem units x = refl
last_x_lem comment x = refl
last_x_lem linear x = refl
last_x_lem closing x = refl
last_x_lem (choice n) x = refl
last_x_lem (moving u v) x = refl
last_x_lem (drawing u v) x = refl

last_y_lem : (f : Form) (y : ℤ) → last_y f y ≡ kept (y_of f) y
last_y_lem format y = refl
last_y_lem units y = refl
last_y_lem comment y = refl
last_y_lem linear y = refl
last_y_lem closing y = refl
last_y_lem (choice n) y = refl
last_y_lem (moving u v) y = refl
last_y_lem (drawing u v) y = refl

-- ---- the form, from them: G04 and G01 differ in their third byte
abbrev command_form : Command → ℕ → Option ℤ → Option ℤ → Form
command_form command·.Nothing b u v = cond (eqb b 52) comment linear
command_form (command·.Choose n) b u v = choice n
command_form command·.Move b u v = moving u v
command_form command·.Line b u v = drawing u v
command_form command·.End b u v = closing

-- a command ends in a whole one, so that in other modes any form will do
abbrev mode_form : Mode → ℕ → Option ℤ → Option ℤ → Form
mode_form Bad b u v = closing
mode_form (Outside g) b u v = closing
mode_form (Whole c) b u v = command_form c b u v
mode_form (Number a sign n w) b u v = closing
mode_form (Inside p) b u v = closing

abbrev phase_form : Phase → Mode → ℕ → Option ℤ → Option ℤ → Form
phase_form first m b u v = format
phase_form second m b u v = units
phase_form commands m b u v = mode_form m b u v
phase_form ended m b u v = closing

-- what the scanner has behind a command tells its form
form_told : {p q : Phase} {f : Form} {w : List ℕ} → Allowed p f q → Spelled f w → phase_form p (stop_of f) (get_or w 2 0) (x_of f) (y_of f) ≡ f
unfolding ascii
form_told allowed_format spelled_format = refl
form_told allowed_units spelled_units = refl
form_told allowed_comment (spelled_comment t s) = refl
form_told allowed_linear spelled_linear = refl
form_told (allowed_choice n) (spelled_choice ds h) = refl
form_told (allowed_moving u v) (spelled_moving h i) = refl
form_told (allowed_drawing u v) (spelled_drawing h i) = refl
form_told allowed_closing spelled_closing = refl

-- the phase behind it
abbrev after_form : Form → Phase
after_form format = second
after_form units = commands
after_form comment = commands
after_form linear = commands
after_form closing = ended
after_form (choice n) = commands
after_form (moving u v) = commands
after_form (drawing u v) = commands

-- each form is allowed before one phase only
after_told : {p q : Phase} {f : Form} → Allowed p f q → after_form f ≡ q
after_told allowed_format = refl
after_told allowed_units = refl
after_told allowed_comment = refl
after_told allowed_linear = refl
after_told (allowed_choice n) = refl
after_told (allowed_moving x y) = refl
after_told (allowed_drawing x y) = refl
after_told allowed_closing = refl

-- ---- two spelled commands that the same bytes start with are one
pub record Same (f g : Form) (q r : Phase) (w z k l : List ℕ) : Type 0 where
  pub form : f ≡ g
  pub phase : q ≡ r
  pub word : w ≡ z
  pub rest : k ≡ l

pub one_command : {p q r : Phase} {f g : Form} {w z k l : List ℕ} → Allowed p f q → Spelled f w → Allowed p g r → Spelled g z → w ++ k ≡ z ++ l → Same f g q r w z k l
one_command {p} {q} {r} {f} {g} {w} {z} {k} {l} a s b t e =
    record {
      form = same;
      phase = sym (after_told a) ∙ ap after_form same ∙ after_told b;
      word = (both (pos 0) (pos 0)).words;
      rest = (both (pos 0) (pos 0)).rests;
    }
  where
    both : (x y : ℤ) → Alike (state (stop_of f) (last_x f x) (last_y f y)) (state (stop_of g) (last_x g x) (last_y g y)) w z k l
    both x y = ends_once (spelt a s x y) (spelt b t x y) refl k l e

    stops : stop_of f ≡ stop_of g
    stops = ap (λ (t : State). t.mode) (both (pos 0) (pos 0)).states

    x_same : x_of f ≡ x_of g
    x_same = kept_same (x_of f) (x_of g) λ x. sym (last_x_lem f x) ∙ ap (λ (t : State). t.x) (both x (pos 0)).states ∙ last_x_lem g x

    y_same : y_of f ≡ y_of g
    y_same = kept_same (y_of f) (y_of g) λ y. sym (last_y_lem f y) ∙ ap (λ (t : State). t.y) (both (pos 0) y).states ∙ last_y_lem g y

    same : f ≡ g
    same =
        sym (form_told a s) ∙ ap₂ (λ (m : Mode) (w : List ℕ). phase_form p m (get_or w 2 0) (x_of f) (y_of f)) stops (both (pos 0) (pos 0)).words ∙
        ap₂ (λ (u v : Option ℤ). phase_form p (stop_of g) (get_or z 2 0) u v) x_same y_same ∙ form_told b t
