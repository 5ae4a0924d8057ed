-- A size of a raster, and a test of two limits: the test and the facts say the same.
use mathlib.Core.Path.{◌≡◌}
use mathlib.Core.Logic.{◌↔◌}
use mathlib.Core.Bool.{true}
use Prim.Native.Nat.{ℕ, ◌≤◌}
use lib.Dec.{leb}
use borrow.Author.Tests.{leb-true, le-leb}
use Rattle.integers.proofs.Tests.{and_both, and_true}
use Rattle.limits.specs.Sizes.{within, raster_max, is_size, Size}

-- what a test of two limits says
pub within_iff : (x low high : ℕ) → (within x low high ≡ true) ↔ ((low ≤ x) × (x ≤ high))
within_iff x low high = (
  (λ e. let b = and_both _ _ e in (leb-true low x b.0, leb-true x high b.1)),
  λ h. and_true (leb low x) (leb x high) (le-leb low x h.0) (le-leb x high h.1),
)

pub size_iff : (n : ℕ) → (is_size n ≡ true) ↔ Size n
size_iff n = (
  (λ e. let b = (within_iff n 1 raster_max).0 e in record { some = b.0; few = b.1 }),
  λ s. (within_iff n 1 raster_max).1 (s.some, s.few),
)
