-- When a text starts with a header: what the code finds, step by step.
use Prim.Native.Nat.{ℕ, ◌+◌}
use mathlib.Core.Path.{◌≡◌, ap, ap₂, ◌∙◌}
use mathlib.Core.Bool.{true, false, ◌&&◌}
use mathlib.Core.List.{List}
use lib.ListN.{length}
use Rattle.integers.proofs.Tests.{and_true, and_false}
use Rattle.limits.specs.Sizes.{is_size}
use Rattle.pbm.specs.declared.read.Header.TheVariants.{Sound, Unsound}
use Rattle.pbm.specs.declared.read.Number.{Number}
use Rattle.pbm.specs.Pbm.{header}
use Rattle.pbm.specs.Reading.{starts_with, size_at, columns_in, header_of, header_in}

-- ---- for given sizes: one of them is outside its limits, the text starts otherwise, or it starts with their header
module _ (columns rows : ℕ) (s : List ℕ) where
  pub no_sizes : (is_size columns && is_size rows) ≡ false → header_of columns rows s ≡ Unsound
  no_sizes e = rw (e, header_of)

  pub other_start : starts_with (header columns rows) s ≡ false → header_of columns rows s ≡ Unsound
  other_start e = rw (and_false (is_size columns && is_size rows) _ e, header_of)

  pub header_there : (is_size columns && is_size rows) ≡ true → starts_with (header columns rows) s ≡ true → header_of columns rows s ≡ Sound columns rows (length (header columns rows))
  header_there e f = rw (and_true (is_size columns && is_size rows) _ e f, header_of)

-- ---- for the sizes that were read
pub sizes_read : (s : List ℕ) {n m : Number} → n ≡ columns_in s → m ≡ size_at (n.end + 1) s → header_of n.value m.value s ≡ header_in s
sizes_read s e f = ap₂ (λ (a b : Number). header_of a.value b.value s) e (f ∙ ap (λ (k : Number). size_at (k.end + 1) s) e)
