-- Columns laid over the bytes from byte `at` on: the same columns, eight further to the right for each byte before it, laid over all the bytes.
use Prim.Native.Nat.{ℕ, ◌+◌, ◌-◌, ◌*◌, ◌≤◌, ◌<◌}
use native.Mathlib.Omega.{arith}
use native.Mathlib.Decide.{dec_lt}
use mathlib.Core.Path.{◌≡◌, sym, ap, ◌∙◌, subst}
use mathlib.Core.Bool.{Bool, false, ◌&&◌}
use mathlib.Core.List.{List, ◌++◌, append-nil}
use borrow.Author.Tests.{leb-true, le-leb, lt-leb}
use lib.Bits.{bit_or, or_zero_r}
use lib.Dec.{leb}
use lib.ListN.{length, get_or, take, drop, length-append, length-drop, drop_of_length-le, get_or-append}
use lib.Seq.{get_or-append-add, get_or-take, get_or-drop, length-take-le, take_all}
use Rattle.integers.proofs.Tests.{and_both, and_true, false_and, same_test}
use Rattle.bits.specs.Bits.{bits_from, span, blackened}
use Rattle.bits.proofs.Tests.{in_span, is_in_span, span_before}
use Rattle.bits.proofs.Bytes.{bits_ext, clear_bits}
use Rattle.bits.proofs.Blackened.{blackened_length, blackened_at, same_bytes, blackened_ext, blackened_none}

module _ (at : ℕ) where
  -- ---- columns, counted from byte `at` on
  abbrev pub shifted : (ℕ → Bool) → ℕ → Bool
  shifted f x = leb (8 * at) x && f (x - 8 * at)

  shifted_before : (f : ℕ → Bool) (x : ℕ) → x < 8 * at → shifted f x ≡ false
  shifted_before f x h = sym (false_and (leb (8 * at) x) (f (x - 8 * at)) (lt-leb (8 * at) x h))

  shifted_from : (f : ℕ → Bool) (y x : ℕ) → 8 * at + y ≡ x → f y ≡ shifted f x
  shifted_from f y x h =
      let e : x - 8 * at ≡ y = omega arith in
      rw (le-leb (8 * at) x (omega arith), e)

  -- ---- the bytes from byte `at` on are blackened, and those before it stay
  module _ (f : ℕ → Bool) (b : List ℕ) (h : at ≤ length b) where
    abbrev laid : List ℕ
    laid = take at b ++ blackened f (drop at b)

    long : length (take at b) ≡ at
    long = length-take-le at b h

    as_long : length laid ≡ length b
    as_long = length-append (take at b) (blackened f (drop at b)) ∙ omega (arith, long, blackened_length f (drop at b), length-drop at b)

    byte_before : (k : ℕ) → k < at → get_or laid k 0 ≡ bit_or (get_or b k 0) (bits_from (shifted f) (8 * k) 8 0)
    byte_before k l =
        get_or-append (take at b) (blackened f (drop at b)) 0 k (omega (arith, long)) ∙ get_or-take at b k 0 l
        ∙ sym (ap (bit_or (get_or b k 0)) (clear_bits (shifted f) (8 * k) 8 (λ c m. shifted_before f (8 * k + c) (omega arith))) ∙ or_zero_r (get_or b k 0))

    byte_from : (j : ℕ) → at + j < length b → get_or laid (at + j) 0 ≡ bit_or (get_or b (at + j) 0) (bits_from (shifted f) (8 * (at + j)) 8 0)
    byte_from j l =
        subst (λ (n : ℕ). get_or laid (n + j) 0 ≡ get_or (blackened f (drop at b)) j 0) long (get_or-append-add (take at b) (blackened f (drop at b)) j 0)
        ∙ blackened_at f (drop at b) j (omega (arith, length-drop at b)) ∙ ap (λ (v : ℕ). bit_or v (bits_from f (8 * j) 8 0)) (get_or-drop at b j 0)
        ∙ ap (bit_or (get_or b (at + j) 0)) (bits_ext f (shifted f) 8 (8 * j) (8 * (at + j)) 0 (λ c m. shifted_from f (8 * j + c) (8 * (at + j) + c) (omega arith)))

    pub part_blackened : laid ≡ blackened (shifted f) b
    part_blackened = same_bytes (shifted f) b laid as_long (λ k l. elim (dec_lt k at) [
      | yes m ↦ byte_before k m
      | no m ↦ (let e : at + (k - at) ≡ k = omega arith in rw e at (byte_from (k - at) (omega arith)))
    ])

  -- ---- a span
  module _ (left end : ℕ) where
    span_shifted : (x : ℕ) → shifted (span left end) x ≡ span (8 * at + left) (8 * at + end) x
    span_shifted x = same_test _ _
        (λ q. let s = and_both (leb (8 * at) x) (span left end (x - 8 * at)) q in
        let l = leb-true (8 * at) x s.0 in
        let i = in_span left end (x - 8 * at) s.1 in
        is_in_span (8 * at + left) (8 * at + end) x (omega (arith, i.0)) (omega (arith, i.1)))
        (λ q. let i = in_span (8 * at + left) (8 * at + end) x q in
        and_true _ _ (le-leb (8 * at) x (omega (arith, i.0))) (is_in_span left end (x - 8 * at) (omega (arith, i.0)) (omega (arith, i.1))))

    -- the part up to the last byte, as it is taken out of the bytes and put back
    pub span_part : (b : List ℕ) {c : List ℕ} → at ≤ length b → c ≡ blackened (span left end) (take (length b - at) (drop at b)) →
        take at b ++ (c ++ drop (length b - at) (drop at b)) ≡ blackened (span (8 * at + left) (8 * at + end)) b
    span_part b {c} h e =
        let rest : length (drop at b) ≤ length b - at = omega (arith, length-drop at b) in
        ap (λ (l : List ℕ). take at b ++ l) (ap (λ (l : List ℕ). c ++ l) (drop_of_length-le (drop at b) rest) ∙ append-nil c
        ∙ e ∙ ap (blackened (span left end)) (take_all (length b - at) (drop at b) rest))
        ∙ part_blackened (span left end) b h ∙ blackened_ext (shifted (span left end)) (span (8 * at + left) (8 * at + end)) b (λ x l. span_shifted x)

    -- where there is no byte `at` no column is laid
    pub span_beyond : (b : List ℕ) → length b ≤ at → b ≡ blackened (span (8 * at + left) (8 * at + end)) b
    span_beyond b h = blackened_none (span (8 * at + left) (8 * at + end)) b (λ x l. span_before (8 * at + left) (8 * at + end) x (omega arith))
