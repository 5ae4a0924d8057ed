-- What a number's digits read as. The claim is a type; proofs/Theorems.antt proves it under its name.
use Rattle.std.specs.Prelude.{ℕ, ◌+◌, ◌-◌, ◌*◌, ◌^◌, ◌≤◌, ◌<◌, ◌≡◌, List, [], ◌∷◌, length, get_or}
use Rattle.text.specs.Decimal.{decimal}

-- what a list of digits reads as: each counts its value, its ASCII code less 48, times ten for each digit behind it
abbrev pub reads_as : List ℕ → ℕ
reads_as [] = 0
reads_as (c ∷ l) = (c - 48) * 10 ^ length l + reads_as l

-- "decimal without leading zeros": some digits, of the ASCII codes 48 to 57, that read as n; a 0 stands first only where it stands alone
pub record Reads (l : List ℕ) (n : ℕ) : Type 0 where
  pub some : 1 ≤ length l
  pub digits : (i : ℕ) → i < length l → (48 ≤ get_or l i 0) × (get_or l i 0 ≤ 57)
  pub value : reads_as l ≡ n
  pub no_leading_zero : get_or l 0 0 ≡ 48 → length l ≡ 1

abbrev pub DecimalReads : Type 0
DecimalReads = (n : ℕ) → Reads (decimal n) n
