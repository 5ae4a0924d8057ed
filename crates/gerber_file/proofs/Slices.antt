-- Parts of a list that follow one another.
use Prim.Native.Nat.{ℕ, ◌≤◌}
use mathlib.Core.Path.{◌≡◌, sym, ap, ◌∙◌}
use mathlib.Core.List.{List, ◌++◌}
use native.Mathlib.Omega.{arith}
use lib.ListN.{length, take, drop, length-append}
use lib.Seq.{take-take, take-add, take-append_seam, drop-append_seam}

module _ {A : Type 0} (a b l : List A) (holds : take (length (a ++ b)) l ≡ a ++ b) where
  -- where a list begins with a and then b, it begins with a
  pub begins_with : take (length a) l ≡ a
  begins_with =
      let n = length-append a b in
      let h : length a ≤ length (a ++ b) = omega arith in
      sym (take-take (length a) (length (a ++ b)) l h) ∙ ap (take (length a)) holds ∙ take-append_seam a b

  -- and behind a there is b
  pub and_then : take (length b) (drop (length a) l) ≡ b
  and_then =
      let m = take (length b) (drop (length a) l) in
      let h : a ++ m ≡ a ++ b = sym (ap (λ (z : List A). z ++ m) begins_with) ∙ sym (take-add (length a) (length b) l) ∙
      ap (λ (n : ℕ). take n l) (sym (length-append a b)) ∙ holds in
      sym (drop-append_seam a m) ∙ ap (drop (length a)) h ∙ drop-append_seam a b
