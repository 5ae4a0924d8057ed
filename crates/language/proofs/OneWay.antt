-- A file is read in one way only: what its next bytes are, a line end, a command or the last of it, is told by the scanner.
use Prim.Native.Nat.{ℕ, suc, ◌+◌}
use native.Mathlib.Omega.{arith}
use mathlib.Core.Path.{◌≡◌, refl, sym, ap, ◌∙◌, subst}
use mathlib.Core.Bool.{Bool, true, cond}
use mathlib.Core.List.{List, [], ◌∷◌, ◌++◌}
use mathlib.Core.Option.{Option, none, some}
use lib.ListN.{length}
use lib.IntN.{pos}
use Rattle.scan.specs.declared.Mode.{Mode}
use Rattle.scan.specs.declared.Mode.TheVariants.{Bad, Outside, Whole, Number, Inside}
use Rattle.scan.specs.declared.Gap.{Gap}
use Rattle.scan.specs.declared.Gap.TheVariants as gap·
use Rattle.scan.specs.Next.{next}
use Rattle.scan.specs.Scanner.{is_ended}
use Rattle.language.specs.Grammar.{Form, Spelled, Phase, first, second, commands, ended, Allowed, allowed_format, allowed_units, allowed_comment, allowed_linear}
use Rattle.language.specs.Grammar.{allowed_choice, allowed_moving, allowed_drawing, allowed_closing, LineEnd, Placed, Reads, whole, skipped, command, missing, cut, other}
use Rattle.language.proofs.Rests.{gap_of, ended_not, line_end, line_end_stays}
use Rattle.language.proofs.Inside.{is_inside, inside_cases, upto, upto_outside}
use Rattle.language.proofs.Commands.{no_command_bad}
use Rattle.language.proofs.Walks.{State, Ends, last, before}
use Rattle.language.proofs.Spelt.{stop_of, spelt}
use Rattle.language.proofs.Comes.{comes, ends_comes, cut_inside}
use Rattle.language.proofs.OneForm.{one_command}

-- ---- what bytes start with, by what they come to
data Kind : Type 0 where
  neither line_break whole_command : Kind

-- the scanner is back outside commands behind a line end, and behind the first header line
abbrev first_kind : Gap → Kind
first_kind gap·.First = line_break
first_kind gap·.Second = whole_command
first_kind gap·.Between = line_break
first_kind gap·.Ended = line_break

abbrev gap_kind : Phase → Gap → Kind
gap_kind first g = first_kind g
gap_kind second g = line_break
gap_kind commands g = line_break
gap_kind ended g = line_break

abbrev mode_kind : Phase → Mode → Kind
mode_kind p Bad = neither
mode_kind p (Outside g) = gap_kind p g
mode_kind p (Whole c) = whole_command
mode_kind p (Number a sign n v) = neither
mode_kind p (Inside q) = neither

abbrev kind : Phase → List ℕ → Kind
kind p [] = neither
kind p (b ∷ l) = mode_kind p (upto (next (Outside (gap_of p)) b) l)

-- the refusal, where they start with neither a line end nor a command
abbrev refusal : Phase → ℕ → List ℕ → Option ℕ
refusal p i [] = cond (is_ended (Outside (gap_of p))) none (some i)
refusal p i (b ∷ l) = cond (is_inside (upto (next (Outside (gap_of p)) b) l)) (some (i + length (b ∷ l))) (some i)

-- a line end leaves the scanner in the gap of its phase
gap_kind_lem : (p : Phase) → mode_kind p (Outside (gap_of p)) ≡ line_break
gap_kind_lem first = refl
gap_kind_lem second = refl
gap_kind_lem commands = refl
gap_kind_lem ended = refl

line_kind : (p : Phase) (b : ℕ) (l : List ℕ) → LineEnd b → kind p (b ∷ l) ≡ line_break
line_kind p b l e =
    ap (λ (m : Mode). mode_kind p (upto m l)) (line_end_stays p b (line_end b e)) ∙
    ap (mode_kind p) (upto_outside (Outside (gap_of p)) refl l) ∙ gap_kind_lem p

-- a command ends in another mode than that
stop_kind : {p q : Phase} {f : Form} → Allowed p f q → mode_kind p (stop_of f) ≡ whole_command
stop_kind allowed_format = refl
stop_kind allowed_units = refl
stop_kind allowed_comment = refl
stop_kind allowed_linear = refl
stop_kind (allowed_choice n) = refl
stop_kind (allowed_moving x y) = refl
stop_kind (allowed_drawing x y) = refl
stop_kind allowed_closing = refl

-- a command has a first byte, so that bytes that start with one come to its last mode
ends_kind : (p : Phase) {t u : State} {w : List ℕ} → Ends t w u → (k : List ℕ) → kind p (w ++ k) ≡ mode_kind p (comes (Outside (gap_of p)) (w ++ k))
ends_kind p (last b i) k = refl
ends_kind p (before b i h) k = refl

command_kind : {p q : Phase} {f : Form} {w : List ℕ} → Allowed p f q → Spelled f w → (k : List ℕ) → kind p (w ++ k) ≡ whole_command
command_kind {p} a s k = let h = spelt a s (pos 0) (pos 0) in ends_kind p h k ∙ ap (mode_kind p) (ends_comes h k) ∙ stop_kind a

-- no command ends inside one
inside_kind : (p : Phase) (m : Mode) → is_inside m ≡ true → mode_kind p m ≡ neither
inside_kind p = inside_cases (λ m. mode_kind p m ≡ neither) (λ a sign n v. refl) (λ q. refl)

-- ---- readings that stop at once: at the end, where a command is cut off, and at bytes that no command has
record Stops (p : Phase) (i : ℕ) (l : List ℕ) (bad : Option ℕ) : Type 0 where
  starts_neither : kind p l ≡ neither
  refused : bad ≡ refusal p i l

ended_stops : (i : ℕ) → Stops ended i [] none
ended_stops i = record { starts_neither = refl; refused = refl }

missing_stops : (p : Phase) (i : ℕ) → ¬ (p ≡ ended) → Stops p i [] (some i)
missing_stops p i e = record { starts_neither = refl; refused = ap (λ (t : Bool). cond t none (some i)) (sym (ended_not p e)) }

cut_stops : (p : Phase) (i b : ℕ) (l : List ℕ) → is_inside (upto (next (Outside (gap_of p)) b) l) ≡ true → Stops p i (b ∷ l) (some (i + length (b ∷ l)))
cut_stops p i b l e =
    record {
      starts_neither = inside_kind p (upto (next (Outside (gap_of p)) b) l) e;
      refused = ap (λ (t : Bool). cond t (some (i + length (b ∷ l))) (some i)) (sym e);
    }

other_stops : (p : Phase) (i b : ℕ) (l : List ℕ) → upto (next (Outside (gap_of p)) b) l ≡ Bad → Stops p i (b ∷ l) (some i)
other_stops p i b l e =
    record {
      starts_neither = ap (mode_kind p) e;
      refused = ap (λ (m : Mode). cond (is_inside m) (some (i + length (b ∷ l))) (some i)) (sym e);
    }

-- ---- the first step of a reading, and the kind of bytes that it is taken at
data Step (p : Phase) (i : ℕ) (l : List ℕ) (fs : List Placed) (bad : Option ℕ) : Type 0 where
  stops : kind p l ≡ neither → bad ≡ refusal p i l → fs ≡ [] → Step p i l fs bad
  skips : kind p l ≡ line_break → (b : ℕ) (k : List ℕ) → b ∷ k ≡ l → Reads p (suc i) k fs bad → Step p i l fs bad
  starts : kind p l ≡ whole_command → {q : Phase} {f : Form} (w k : List ℕ) (gs : List Placed) → w ++ k ≡ l → Allowed p f q → Spelled f w → Reads q (i + length w) k gs bad →
      record { place = i; behind = i + length w; form = f } ∷ gs ≡ fs → Step p i l fs bad

stopped : {p : Phase} {i : ℕ} {l : List ℕ} {bad : Option ℕ} → Stops p i l bad → Step p i l [] bad
stopped h = stops h.starts_neither h.refused refl

step : {p : Phase} {i : ℕ} {l : List ℕ} {fs : List Placed} {bad : Option ℕ} → Reads p i l fs bad → Step p i l fs bad
step (whole i) = stopped (ended_stops i)
step (skipped {p} {i} {b} {l} e r) = skips (line_kind p b l e) b l refl r
step (command {l = l} w a s r) = starts (command_kind a s l) w l _ refl a s r refl
step (missing {p} i e) = stopped (missing_stops p i e)
step (cut {p} i b c l m a s) = stopped (cut_stops p i b l (cut_inside a b l c m s))
step (other {p} i b l e f g) = stopped (other_stops p i b l (no_command_bad p b l e f g))

-- ---- these bytes are read so and not otherwise
abbrev Once : Phase → ℕ → List ℕ → List Placed → Option ℕ → Type 0
Once p i l fs bad = (gs : List Placed) (worse : Option ℕ) → Reads p i l gs worse → (fs ≡ gs) × (bad ≡ worse)

-- the same command at the same place, before the same ones
placed_same : (i : ℕ) {f g : Form} {w z : List ℕ} {fs gs : List Placed} → f ≡ g → w ≡ z → fs ≡ gs →
    ◌≡◌ {A = List Placed} (record { place = i; behind = i + length w; form = f } ∷ fs) (record { place = i; behind = i + length z; form = g } ∷ gs)
placed_same i e h j = rw (e, h, j)

-- .. whatever the first step is, since any other reading's is at bytes of the same kind
module _ (p : Phase) (i : ℕ) where
  -- the place of a refusal is told by the bytes
  stops_once : (l : List ℕ) (bad : Option ℕ) → Stops p i l bad → Once p i l [] bad
  stops_once l bad d gs worse r = go d.starts_neither (step r)
    where
      go : kind p l ≡ neither → Step p i l gs worse → ([] ≡ gs) × (bad ≡ worse)
      go e (stops h g j) = (sym j, d.refused ∙ sym g)
      go e (skips h b k g r) = absurd (let z : ◌≡◌ {A = ℕ} 0 1 = cc in omega arith)
      go e (starts h w k hs g a s r j) = absurd (let z : ◌≡◌ {A = ℕ} 0 1 = cc in omega arith)

  -- behind a line end the rest is read once
  skips_once : (b : ℕ) (l : List ℕ) (fs : List Placed) (bad : Option ℕ) → LineEnd b → Once p (suc i) l fs bad → Once p i (b ∷ l) fs bad
  skips_once b l fs bad e once gs worse r = go (line_kind p b l e) (step r)
    where
      go : kind p (b ∷ l) ≡ line_break → Step p i (b ∷ l) gs worse → (fs ≡ gs) × (bad ≡ worse)
      go f (stops h g j) = absurd (let z : ◌≡◌ {A = ℕ} 0 1 = cc in omega arith)
      go f (skips h c k g r) = let same : k ≡ l = cc in once gs worse (subst (λ (k : List ℕ). Reads p (suc i) k gs worse) same r)
      go f (starts h w k hs g a s r j) = absurd (let z : ◌≡◌ {A = ℕ} 0 1 = cc in omega arith)

  -- behind a command, which is one and no other, the rest is
  starts_once : {q : Phase} {f : Form} (w l : List ℕ) (fs : List Placed) (bad : Option ℕ) → Allowed p f q → Spelled f w → Once q (i + length w) l fs bad →
      Once p i (w ++ l) (record { place = i; behind = i + length w; form = f } ∷ fs) bad
  starts_once {q} {f} w l fs bad a s once gs worse r = go (command_kind a s l) (step r)
    where
      go : kind p (w ++ l) ≡ whole_command → Step p i (w ++ l) gs worse → (record { place = i; behind = i + length w; form = f } ∷ fs ≡ gs) × (bad ≡ worse)
      go e (stops h g j) = absurd (let z : ◌≡◌ {A = ℕ} 0 1 = cc in omega arith)
      go e (skips h b k g r) = absurd (let z : ◌≡◌ {A = ℕ} 0 1 = cc in omega arith)
      go e (starts h z k hs u b t r j) =
          let same = one_command a s b t (sym u) in
          let o = once hs worse (rw (sym same.phase, sym same.word, sym same.rest) at r) in
          (placed_same i same.form same.word o.0 ∙ j, o.1)

pub reads_once : {p : Phase} {i : ℕ} {l : List ℕ} {fs : List Placed} {bad : Option ℕ} → Reads p i l fs bad → Once p i l fs bad
reads_once (whole i) = stops_once ended i [] none (ended_stops i)
reads_once (skipped {p} {i} {b} {l} {fs} {bad} e r) = skips_once p i b l fs bad e (reads_once r)
reads_once (command {p} {i = i} {l = l} {fs} {bad} w a s r) = starts_once p i w l fs bad a s (reads_once r)
reads_once (missing {p} i e) = stops_once p i [] (some i) (missing_stops p i e)
reads_once (cut {p} i b c l m a s) = stops_once p i (b ∷ l) (some (i + length (b ∷ l))) (cut_stops p i b l (cut_inside a b l c m s))
reads_once (other {p} i b l e f g) = stops_once p i (b ∷ l) (some i) (other_stops p i b l (no_command_bad p b l e f g))
