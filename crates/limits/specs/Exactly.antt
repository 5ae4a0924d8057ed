-- Document 01's table of refusals says "Given exactly when", and of its lines "The first that applies is the answer". Here is the form in which a
-- crate says so of its calls: the lines of the table in the order of the checks, each with its number and when it applies,
--     (6 when NoPen else 2 when BadPath else .. else done) k
-- is the claim that the answer is k. The numbers, and the sizes in what applies, are written out as the document has them, and are not taken from
-- Sizes and Refusal: a wrong one there is refused here.
use Rattle.std.specs.Prelude.{ℕ, ◌%◌, ◌<◌, ◌≡◌, ◌⊎◌, List, length, get_or, ℤ, pos, neg_ℤ}
use Rattle.integers.specs.Orders.{◌≺◌}

-- the answer is k, where it is n if something applies, and otherwise what the rest says
infixr 3 ◌when◌else◌
abbrev pub ◌when◌else◌ : ℕ → Type 0 → (ℕ → Type 0) → ℕ → Type 0
(n when applies else rest) k = (applies × (k ≡ n)) ⊎ (¬ applies × rest k)

-- "0 | done"
abbrev pub done : ℕ → Type 0
done k = k ≡ 0

-- 2: "path has no entries, an odd number, or more than 8,192"
abbrev pub BadPath : List ℤ → Type 0
BadPath p = (length p ≡ 0) ⊎ ((length p % 2 ≡ 1) ⊎ (8192 < length p))

-- 3: "a coordinate outside its range", "each coordinate from -262,144 to 262,144"
abbrev pub BadEntry : List ℤ → ℕ → Type 0
BadEntry p i = (i < length p) × ((get_or p i (pos 0) ≺ neg_ℤ (pos 262144)) ⊎ (pos 262144 ≺ get_or p i (pos 0)))

abbrev pub BadCoordinate : List ℤ → Type 0
BadCoordinate p = (i : ℕ) × BadEntry p i

-- "index of the first bad entry"
pub record FirstBad (p : List ℤ) (i : ℕ) : Type 0 where
  pub bad : BadEntry p i
  pub first : (k : ℕ) → k < i → ¬ BadEntry p k

-- 4: "raster size outside 1 to 16,384"
abbrev pub BadSize : ℕ → Type 0
BadSize n = (n < 1) ⊎ (16384 < n)

abbrev pub BadRaster : ℕ → ℕ → Type 0
BadRaster columns rows = BadSize columns ⊎ BadSize rows

-- 5: "row not below the number of rows"
abbrev pub BadRow : ℕ → ℕ → Type 0
BadRow rows j = ¬ (j < rows)

-- 7: "more runs than the list has records, or a packed row longer than its buffer"
abbrev pub NoRoom : ℕ → ℕ → Type 0
NoRoom needed space = space < needed
