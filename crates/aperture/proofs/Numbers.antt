-- The test of an aperture number, and of a place in use, and what they say.
use Prim.Native.Nat.{ℕ, ◌-◌, ◌≤◌, ◌<◌}
use mathlib.Core.Path.{◌≡◌}
use mathlib.Core.Logic.{◌↔◌}
use mathlib.Core.Bool.{Bool, true, false}
use native.Mathlib.Omega.{arith}
use Rattle.integers.proofs.Tests.{and_both}
use Rattle.limits.specs.Sizes.{aperture_min, aperture_max, places}
use Rattle.limits.proofs.Sizes.{within_iff}
use Rattle.aperture.specs.declared.Table.{Table}
use Rattle.aperture.specs.Table.{is_number, is_held, place_of}

pub number_iff : (n : ℕ) → (is_number n ≡ true) ↔ ((aperture_min ≤ n) × (n ≤ aperture_max))
number_iff n = within_iff n aperture_min aperture_max

-- the index of a number's place is one of 32
pub index_small : (n : ℕ) → is_number n ≡ true → n - aperture_min < places
index_small n e = let k = (number_iff n).0 e in omega arith

-- two numbers have two places
pub index_other : (n m : ℕ) → is_number n ≡ true → is_number m ≡ true → ¬ (n ≡ m) → ¬ (m - aperture_min ≡ n - aperture_min)
index_other n m e f h k = let a = (number_iff n).0 e in let b = (number_iff m).0 f in h (omega arith)

-- the test of an aperture in use, taken apart and put together
pub held_parts : (t : Table) (n : ℕ) → is_held t n ≡ true → (is_number n ≡ true) × ((place_of t n).used ≡ true)
held_parts t n e = and_both _ _ e

pub held_not : (t : Table) (n : ℕ) → is_number n ≡ false → false ≡ is_held t n
held_not t n e = rw e

pub held_used : (t : Table) (n : ℕ) {u : Bool} → is_number n ≡ true → u ≡ (place_of t n).used → u ≡ is_held t n
held_used t n e h = rw e h
