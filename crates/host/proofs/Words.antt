-- The bytes of a list of runs, as those of its numbers.
use Prim.Native.Nat.{ℕ, ◌*◌, ◌/◌, ◌%◌, ◌≤◌}
use mathlib.Core.Path.{◌≡◌, refl, ap, ap₂, ◌∙◌}
use mathlib.Core.List.{List, [], ◌∷◌, ◌++◌}
use native.Mathlib.Omega.{arith}
use lib.ListN.{length, drop, length-append}
use lib.Seq.{take_at}
use Rattle.wire.specs.Write.{word_bytes, encoded}
use Rattle.wire.proofs.Laws.{encoded_all}
use Rattle.stroke.specs.Runs.{Run}
use Rattle.row.specs.Answer.{flat, listed}
use Rattle.host.specs.Host.{run_bytes}

flat_length : (rs : List Run) → length (flat rs) ≡ 2 * length rs
flat_length [] = refl
flat_length (r ∷ rs) = omega (arith, flat_length rs)

flat_words : (rs : List Run) → word_bytes (flat rs) ≡ run_bytes rs
unfolding word_bytes
flat_words [] = refl
flat_words (r ∷ rs) = ap (λ (b : List ℕ). r.left % 256 ∷ r.left / 256 ∷ r.right % 256 ∷ r.right / 256 ∷ b) (flat_words rs)

-- runs, whatever stands after them in the list
pub run_words : (rs : List Run) (l b : List ℕ) → length rs ≤ length b / 4 → encoded (listed rs l) (2 * length rs) b ≡ run_bytes rs ++ drop (4 * length rs) b
run_words rs l b h =
    encoded_all (listed rs l) (2 * length rs) b (omega (arith, length-append (flat rs) (drop (2 * length rs) l), flat_length rs)) (omega arith)
    ∙ ap₂ (λ (x : List ℕ) (n : ℕ). word_bytes x ++ drop n b) (take_at (flat rs) (drop (2 * length rs) l) (2 * length rs) (flat_length rs)) fours
    ∙ ap (λ (x : List ℕ). x ++ drop (4 * length rs) b) (flat_words rs)
  where
    fours : 2 * (2 * length rs) ≡ 4 * length rs
    fours = omega arith
