-- A chunk in two parts: the bytes before a command's first byte, and the others.
use Rattle.std.proofs.Common.{◌≡◌, ℕ, ◌+◌, ◌-◌, ◌<◌, ◌≤◌, Bool, true, false, cond, ltb, leb, List, length, take, drop, sym, refl, ap, ◌∙◌, ap₂, arith, take-append-drop, ltb-true, le-ltb, lt-ltb, le-leb, leb-true}
use native.Mathlib.Decide.{dec_lt}
use borrow.Author.Tests.{lt-leb}
use Rattle.integers.proofs.Tests.{and_both, and_true, false_and, and_false}
use Rattle.marks.specs.declared.Mark.{Mark}
use Rattle.marks.specs.declared.Marks.{Marks}
use Rattle.marks.specs.Marks.{past, is_of, front_of, advanced}
use Rattle.marks.proofs.Places.{past_append}

-- ---- how many come before
module _ (from n start : ℕ) where
  front : {t : Bool} → is_of from n start ≡ t → cond t (start - from) n ≡ front_of from n start
  front e = sym (ap (λ (t : Bool). cond t (start - from) n) e)

  pub front_before : start < from → n ≡ front_of from n start
  front_before h = front (sym (false_and (leb from start) (ltb start (from + n)) (lt-leb from start h)))

  pub front_behind : from ≤ start → n ≤ start - from → n ≡ front_of from n start
  front_behind h k = front (and_false (leb from start) (ltb start (from + n)) (le-ltb start (from + n) (omega arith)))

  pub front_here : from ≤ start → start - from ≤ n → start - from ≡ front_of from n start
  front_here h k = elim (dec_lt start (from + n)) [
    | yes l ↦ front (and_true (leb from start) (ltb start (from + n)) (le-leb from start h) (lt-ltb start (from + n) l))
    | no l ↦ let same : start - from ≡ n = omega arith in same ∙ front_behind h (omega arith)
  ]

  -- it is one of them
  is_of_lem : is_of from n start ≡ true → start - from < n
  is_of_lem e =
      let b = and_both (leb from start) (ltb start (from + n)) e in
      omega (arith, leb-true from start b.0, ltb-true start (from + n) b.1)

  pub front_few : front_of from n start ≤ n
  front_few = go (is_of from n start) refl
    where
      go : (t : Bool) → is_of from n start ≡ t → cond t (start - from) n ≤ n
      go true e = omega (arith, is_of_lem e)
      go false e = omega arith

-- ---- the marks by them
-- k bytes come before; the first part leads to `here`, and the other one on to `end`
module _ (m : Marks) (chunk : List ℕ) (start k : ℕ) (e : k ≡ front_of m.end.at (length chunk) start) {here end : Mark} (f : here ≡ past m.end (take k chunk)) (g : end ≡ past here (drop k chunk)) where
  whole : end ≡ past m.end chunk
  whole =
      g
      ∙ ap (λ (n : Mark). past n (drop k chunk)) f
      ∙ sym (past_append m.end (take k chunk) (drop k chunk))
      ∙ ap (past m.end) (take-append-drop k chunk)

  -- all bytes come before: the command's mark is kept
  pub old_command : k ≡ length chunk → record { command = m.command; end = end } ≡ advanced m chunk start
  old_command h = ap₂ (λ (c q : Mark). record { command = c; end = q }) (go (is_of m.end.at (length chunk) start) refl e) whole
    where
      go : (t : Bool) → is_of m.end.at (length chunk) start ≡ t → k ≡ cond t (start - m.end.at) (length chunk) → m.command ≡ cond t (past m.end (take (start - m.end.at) chunk)) m.command
      go true p q = absurd (omega (arith, is_of_lem m.end.at (length chunk) start p))
      go false p q = refl

  -- not all: a command begins in the chunk
  pub new_command : ¬ (k ≡ length chunk) → record { command = here; end = end } ≡ advanced m chunk start
  new_command h = ap₂ (λ (c q : Mark). record { command = c; end = q }) (f ∙ go (is_of m.end.at (length chunk) start) refl e) whole
    where
      go : (t : Bool) → is_of m.end.at (length chunk) start ≡ t → k ≡ cond t (start - m.end.at) (length chunk) →
          past m.end (take k chunk) ≡ cond t (past m.end (take (start - m.end.at) chunk)) m.command
      go true p q = ap (λ (n : ℕ). past m.end (take n chunk)) q
      go false p q = absurd (h q)
