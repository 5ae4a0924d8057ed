-- Marks that are kept from chunk to chunk: the claims MarksKept, MarksAnyChunks and MarkTold.
use Rattle.std.proofs.Common.{◌≡◌, ℕ, ◌+◌, ◌-◌, ◌^◌, ◌<◌, ◌≤◌, Bool, true, false, cond, eqb, ltb, leb, ◌⊎◌, List, [], ◌∷◌, ◌++◌, length, take, sym, refl, ap, ◌∙◌, ap₂, inl, inr, mod-eq_of_lt, arith, length-append, lt-ltb, eq-eqb, ne_eqb, le-leb}
use native.Mathlib.Decide.{dec_lt}
use lib.Seq.{take-append-le, take-append-add, take-length}
use borrow.Author.Tests.{lt-leb}
use Rattle.integers.proofs.Tests.{and_true, false_and}
use Rattle.marks.specs.declared.Mark.{Mark}
use Rattle.marks.specs.declared.Marks.{Marks}
use Rattle.marks.specs.Marks.{next, first_mark, behind, past, advanced, mark_of}
use Rattle.marks.specs.Theorems.{mark_at, Read, none, more, Kept, MarksKept, MarksAnyChunks, MarkTold}
use Rattle.marks.proofs.Places.{past_append}

-- ---- the place counts the bytes
behind_at : (m : Mark) (b : ℕ) → (behind m b).at ≡ next m.at
behind_at m b = go (eqb b 10)
  where
    go : (t : Bool) → let r : Mark = cond t (record { at = next m.at; line = next m.line; column = 1 }) (record { at = next m.at; line = m.line; column = next m.column }) in r.at ≡ next m.at
    go true = refl
    go false = refl

past_at : (m : Mark) (l : List ℕ) → m.at + length l < 2 ^ 64 → (past m l).at ≡ m.at + length l
past_at m [] h = omega arith
past_at m (b ∷ l) h =
    let one : (behind m b).at ≡ m.at + 1 = behind_at m b ∙ mod-eq_of_lt (omega arith) in
    past_at (behind m b) l (omega arith) ∙ omega arith

-- ---- one chunk more
-- so many bytes of a list and of what follows it
take_past : (a b : List ℕ) (n : ℕ) → length a ≤ n → a ++ take (n - length a) b ≡ take n (a ++ b)
take_past a b n h =
    let same : length a + (n - length a) ≡ n = omega arith in
    sym (take-append-add a b (n - length a)) ∙ ap (λ (k : ℕ). take k (a ++ b)) same

module _ (bytes : List ℕ) (start : ℕ) (m : Marks) (k : Kept bytes start m) (chunk : List ℕ) (new : ℕ) (h : length (bytes ++ chunk) < 2 ^ 64) where
  -- the chunk starts behind the bytes
  from : m.end.at ≡ length bytes
  from = ap (λ (n : Mark). n.at) k.end ∙ past_at first_mark bytes (omega (arith, length-append bytes chunk)) ∙ omega arith

  -- the command begins in the chunk
  here : length bytes ≤ new → new < length (bytes ++ chunk) → (advanced m chunk new).command ≡ mark_at (bytes ++ chunk) new
  here l s =
      let low = le-leb m.end.at new (omega (arith, from)) in
      let high = lt-ltb new (m.end.at + length chunk) (omega (arith, from, length-append bytes chunk)) in
      ap (λ (t : Bool). cond t (past m.end (take (new - m.end.at) chunk)) m.command) (and_true (leb m.end.at new) (ltb new (m.end.at + length chunk)) low high)
      ∙ ap₂ past k.end (ap (λ (n : ℕ). take (new - n) chunk) from)
      ∙ sym (past_append first_mark bytes (take (new - length bytes) chunk))
      ∙ ap (past first_mark) (take_past bytes chunk new l)

  -- it has begun before
  before : new ≡ start → new < length bytes → (advanced m chunk new).command ≡ mark_at (bytes ++ chunk) new
  before e s =
      let low = lt-leb m.end.at new (omega (arith, from)) in
      ap (λ (t : Bool). cond t (past m.end (take (new - m.end.at) chunk)) m.command) (sym (false_and (leb m.end.at new) (ltb new (m.end.at + length chunk)) low))
      ∙ k.command (omega arith)
      ∙ ap (mark_at bytes) (sym e)
      ∙ sym (ap (past first_mark) (take-append-le new bytes chunk (omega arith)))

  step : (length bytes ≤ new) ⊎ (new ≡ start) → Kept (bytes ++ chunk) new (advanced m chunk new)
  step w = record {
    end = ap (λ (n : Mark). past n chunk) k.end ∙ sym (past_append first_mark bytes chunk);
    command = λ s. elim (dec_lt new (length bytes)) [ yes l ↦ elim w [ inl g ↦ absurd (omega arith) | inr e ↦ before e l ] | no l ↦ here (omega arith) s ];
  }

-- ---- all chunks
kept : {bytes : List ℕ} {start : ℕ} {m : Marks} → Read bytes start m → length bytes < 2 ^ 64 → Kept bytes start m
kept (none start) h = record { end = refl; command = λ k. absurd (omega arith) }
kept (more {bytes} {start} {m} r chunk new w) h = step bytes start m (kept r (omega (arith, length-append bytes chunk))) chunk new h w

pub marks_kept : MarksKept
marks_kept bytes start m r h = kept r h

pub marks_any_chunks : MarksAnyChunks
marks_any_chunks bytes start m n r q h s =
    let a = kept r h in
    let b = kept q h in
    ap₂ (λ (c e : Mark). record { command = c; end = e }) (a.command s ∙ sym (b.command s)) (a.end ∙ sym b.end)

pub mark_told : MarkTold
mark_told bytes start m r h place w = go w
  where
    k : Kept bytes start m
    k = kept r h

    -- the end's place
    end_at : m.end.at ≡ length bytes
    end_at = ap (λ (n : Mark). n.at) k.end ∙ past_at first_mark bytes (omega arith) ∙ omega arith

    go : (place ≡ length bytes) ⊎ ((place ≡ start) × (start < length bytes)) → mark_of m place ≡ mark_at bytes place
    go (inl e) =
        ap (λ (t : Bool). cond t m.end m.command) (eq-eqb place m.end.at (omega (arith, end_at)))
        ∙ k.end
        ∙ ap (past first_mark) (sym (take-length bytes) ∙ ap (λ (n : ℕ). take n bytes) (sym e))
    go (inr e) =
        ap (λ (t : Bool). cond t m.end m.command) (ne_eqb place m.end.at (omega (arith, end_at)))
        ∙ k.command e.1
        ∙ ap (mark_at bytes) (sym e.0)
