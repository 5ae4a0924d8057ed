-- What the bytes of each phase turn out to be, from the first that is no line end on.
use Prim.Native.Nat.{ℕ, ◌+◌, ◌*◌}
use native.Mathlib.Omega.{arith}
use mathlib.Core.Path.{◌≡◌, refl, ap, subst}
use mathlib.Core.Bool.{Bool, true, false}
use mathlib.Core.List.{List, [], ◌∷◌, ◌++◌, append-nil, append_assoc}
use mathlib.Core.Option.{Option}
use lib.IntN.{ℤ}
use Rattle.integers.proofs.Tests.{clash}
use Rattle.text.specs.Ascii.{ascii}
use Rattle.scan.specs.declared.Axis.TheVariants.{X, Y}
use Rattle.scan.specs.declared.Mode.{Mode}
use Rattle.scan.specs.declared.Mode.TheVariants as mode·
use Rattle.scan.specs.declared.Part.TheVariants as part·
use Rattle.scan.specs.Next.{next, pick, is_line_end}
use Rattle.language.specs.Grammar.{digit, one, then, Number, Axis, omitted, named, Form, Spelled, spelled_format, spelled_units, spelled_comment}
use Rattle.language.specs.Grammar.{spelled_linear, spelled_choice, spelled_drawing, spelled_moving, spelled_closing, Phase, first, second, commands, ended}
use Rattle.language.specs.Grammar.{Allowed, allowed_format, allowed_units, allowed_comment, allowed_linear, allowed_choice, allowed_moving, allowed_drawing}
use Rattle.language.specs.Grammar.{allowed_closing, LineEnd}
use Rattle.language.proofs.Rests.{gap_of, is_line_end_lem}
use Rattle.language.proofs.Inside.{upto}
use Rattle.language.proofs.Found.{Found, refused, whole, part, never, recast, step, test, byte, any_digit}
use Rattle.language.proofs.Words.{fixed, format_fixed, units_fixed, linear_fixed, closing_fixed, operation, choices, comment}
use Rattle.language.proofs.Plots.{Behind, behind_recast, axis_found}

-- these bytes are an allowed command
pub record Command (p : Phase) (w : List ℕ) : Type 0 where
  pub after : Phase
  pub form : Form
  pub allowed : Allowed p form after
  pub spelled : Spelled form w

command : {p q : Phase} {f : Form} {w : List ℕ} → Allowed p f q → Spelled f w → Command p w
command {p} {q} {f} a s = record { after = q; form = f; allowed = a; spelled = s }

-- ---- plots: behind both axes
module _ {k l : List ℕ} {x y : Option ℤ} (h : Axis (ascii "X") k x) (i : Axis (ascii "Y") l y) where
  drawing : Command commands (k ++ l ++ (68 ∷ 48 ∷ 49 ∷ 42 ∷ []))
  unfolding ascii
  drawing = command (allowed_drawing x y) (spelled_drawing h i)

  moving : Command commands (k ++ l ++ (68 ∷ 48 ∷ 50 ∷ 42 ∷ []))
  unfolding ascii
  moving = command (allowed_moving x y) (spelled_moving h i)

  plot : (m : List ℕ) → Found (mode·.Inside part·.PlotD) (λ w. Command commands (k ++ l ++ (68 ∷ w))) m
  plot =
      let L : List ℕ → Type 0 = λ w. Command commands (k ++ l ++ (68 ∷ w)) in
      step L (mode·.Inside part·.PlotD) refl 48 (49 ∷ 42 ∷ []) drawing λ b m.
      byte L 48 b m (operation (λ w. L (48 ∷ w)) drawing moving m) λ _.
      never (λ w. L (b ∷ w)) m

-- behind Y's number, and behind Y
behind_second : {k l : List ℕ} {x : Option ℤ} {z : ℤ} → Axis (ascii "X") k x → Number l z → Behind Y (λ w. Command commands (k ++ (89 ∷ l) ++ w))
unfolding ascii
behind_second h n = record { word = drawing h (named n); plot = plot h (named n); axis = λ e. absurd (clash e refl) }

second_axis : {k : List ℕ} {x : Option ℤ} → Axis (ascii "X") k x → (l : List ℕ) → Found (mode·.Inside (part·.Axis Y)) (λ w. Command commands (k ++ (89 ∷ w))) l
second_axis {k} h =
    axis_found Y (λ w. Command commands (k ++ (89 ∷ w)))
    (λ n z i. behind_recast (λ w. subst (Command commands) (append_assoc k (89 ∷ n) w)) (behind_second h i))

-- behind X's number, and behind X
behind_first : {l : List ℕ} {z : ℤ} → Number l z → Behind X (λ w. Command commands (88 ∷ l ++ w))
unfolding ascii
behind_first {l} n =
    let c : (w : List ℕ) → Command commands (88 ∷ l ++ [] ++ w) → Command commands (88 ∷ l ++ w) = λ w. subst (λ (t : List ℕ). Command commands (88 ∷ t ++ w)) (append-nil l) in
    record {
      word = c (68 ∷ 48 ∷ 49 ∷ 42 ∷ []) (drawing (named n) omitted);
      plot = λ m. recast (λ w. c (68 ∷ w)) (plot (named n) omitted m);
      axis = λ _. second_axis (named n);
    }

first_axis : (l : List ℕ) → Found (mode·.Inside (part·.Axis X)) (λ w. Command commands (88 ∷ w)) l
first_axis = axis_found X (λ w. Command commands (88 ∷ w)) (λ n z i. behind_first i)

-- ---- behind D: "01*" and "02*" of a plot with no axis, or a choice; behind G: "01*", or "04" and a comment
after_d_lem : (l : List ℕ) → Found (mode·.Inside part·.D) (λ w. Command commands (68 ∷ w)) l
unfolding ascii
after_d_lem =
    let L : List ℕ → Type 0 = λ w. Command commands (68 ∷ w) in
    step L (mode·.Inside part·.D) refl 48 (49 ∷ 42 ∷ []) (drawing omitted omitted) λ b l.
    byte L 48 b l (operation (λ w. L (48 ∷ w)) (drawing omitted omitted) (moving omitted omitted) l) λ n.
    any_digit L b l (λ t. mode·.Inside (part·.Tens t))
    (λ t i e. choices (λ w. L ((48 + t) ∷ w)) t (λ d j. command (allowed_choice (10 * t + d)) (spelled_choice (then (one (digit t i)) (digit d j)) (omega arith))) l)
    (never (λ w. L (b ∷ w)) l)

after_g : (l : List ℕ) → Found (mode·.Inside part·.G) (λ w. Command commands (71 ∷ w)) l
unfolding ascii
after_g =
    let L : List ℕ → Type 0 = λ w. Command commands (71 ∷ w) in
    let linear : L (48 ∷ 49 ∷ 42 ∷ []) = command allowed_linear spelled_linear in
    step L (mode·.Inside part·.G) refl 48 (49 ∷ 42 ∷ []) linear λ b l.
    byte L 48 b l (step (λ w. L (48 ∷ w)) (mode·.Inside part·.GZero) refl 49 (42 ∷ []) linear
    (λ c m. byte (λ w. L (48 ∷ w)) 49 c m (fixed (λ w. L (48 ∷ 49 ∷ w)) linear_fixed linear m) λ _.
    byte (λ w. L (48 ∷ w)) 52 c m (comment (λ w. L (48 ∷ 52 ∷ w)) (λ t s. command allowed_comment (spelled_comment t s)) m) λ _.
    never (λ w. L (48 ∷ c ∷ w)) m) l) λ _.
    never (λ w. L (b ∷ w)) l

-- ---- the first byte of a command
module _ (b : ℕ) (out : is_line_end b ≡ false) (l : List ℕ) where
  -- it is no line end
  no_line_end : (p : Phase) {n : Mode} → Found n (λ w. Command p (b ∷ w)) l → Found (pick (is_line_end b) (mode·.Outside (gap_of p)) n) (λ w. Command p (b ∷ w)) l
  no_line_end p {n} f = test (λ w. Command p (b ∷ w)) l (mode·.Outside (gap_of p)) n (is_line_end b) (λ e. absurd (clash e out)) (λ _. f)

  pub phase_found : (p : Phase) → Found (next (mode·.Outside (gap_of p)) b) (λ w. Command p (b ∷ w)) l
  unfolding ascii
  phase_found first =
      let L : List ℕ → Type 0 = Command first in
      no_line_end first (byte L 37 b l (fixed (λ w. L (37 ∷ w)) format_fixed (command allowed_format spelled_format) l) λ _. never (λ w. L (b ∷ w)) l)
  phase_found second =
      let L : List ℕ → Type 0 = Command second in
      no_line_end second (byte L 37 b l (fixed (λ w. L (37 ∷ w)) units_fixed (command allowed_units spelled_units) l) λ _. never (λ w. L (b ∷ w)) l)
  phase_found commands =
      let L : List ℕ → Type 0 = Command commands in
      no_line_end commands (byte L 88 b l (first_axis l) λ _.
      byte L 89 b l (second_axis omitted l) λ _.
      byte L 68 b l (after_d_lem l) λ _.
      byte L 71 b l (after_g l) λ _.
      byte L 77 b l (fixed (λ w. L (77 ∷ w)) closing_fixed (command allowed_closing spelled_closing) l) λ _.
      never (λ w. L (b ∷ w)) l)
  phase_found ended = no_line_end ended (never (λ w. Command ended (b ∷ w)) l)

-- bytes that start no command, and that no command starts with, are refused
pub no_command_bad : (p : Phase) (b : ℕ) (l : List ℕ) → ¬ LineEnd b → ((q : Phase) (f : Form) (w m : List ℕ) → w ++ m ≡ b ∷ l → Allowed p f q → ¬ Spelled f w) →
    ((q : Phase) (f : Form) (m : List ℕ) → Allowed p f q → ¬ Spelled f (b ∷ l ++ m)) → upto (next (mode·.Outside (gap_of p)) b) l ≡ mode·.Bad
no_command_bad p b l out no_start no_part = go (is_line_end b) refl
  where
    found : Found (next (mode·.Outside (gap_of p)) b) (λ w. Command p (b ∷ w)) l → upto (next (mode·.Outside (gap_of p)) b) l ≡ mode·.Bad
    found (refused e) = e
    found (whole w k e c) = absurd (no_start c.after c.form (b ∷ w) k (ap (λ (t : List ℕ). b ∷ t) e) c.allowed c.spelled)
    found (part d k c) = absurd (no_part c.after c.form (d ∷ k) c.allowed c.spelled)

    go : (t : Bool) → is_line_end b ≡ t → upto (next (mode·.Outside (gap_of p)) b) l ≡ mode·.Bad
    go true e = absurd (out (is_line_end_lem b e))
    go false e = found (phase_found b e l p)
