-- Document 01, "Which pixels are black": "Runs are the longest unbroken stretches, so touching ones are joined"; and each row's runs are cut to the raster.
use Rattle.std.specs.Prelude.{◌⊎◌, ◌↔◌, Bool, true, false, cond, ◌&&◌, ◌||◌, List, [], ◌∷◌, ℕ, zero, suc, ◌+◌, ◌-◌, ◌≤◌, ◌<◌, leb, ℤ, pos}
use Rattle.std.specs.Int.Signed.{le_z}
use Rattle.plane.specs.Point.{Pt}
use Rattle.stroke.specs.Sweep.{segments}
use Rattle.stroke.specs.Extent.{Span, none, columns as from-to, extent}

-- "A run .. covers the columns from left to right, both included"
pub record Run : Type 0 where
  pub left : ℕ
  pub right : ℕ

-- ordered from column lo on, and apart by at least one clear column
abbrev pub Apart : ℕ → List Run → Type 0
Apart lo [] = Unit
Apart lo (r ∷ rs) = (lo ≤ r.left) × (r.left ≤ r.right) × Apart (r.right + 2) rs

abbrev pub Covers : List Run → ℕ → Type 0
Covers [] x = ⊥
Covers (r ∷ rs) x = ((r.left ≤ x) × (x ≤ r.right)) ⊎ Covers rs x

-- the longest runs of the columns below n that have a property
pub record Longest (black : ℕ → Type 0) (n : ℕ) (rs : List Run) : Type 0 where
  pub apart : Apart 0 rs
  pub cover : (x : ℕ) → Covers rs x ↔ ((x < n) × black x)

-- "A run holds right - left + 1 pixels"
abbrev pub holds : List Run → ℕ
holds [] = 0
holds (r ∷ rs) = r.right - r.left + 1 + holds rs

-- the runs that compute: column i before the runs that start at i + 1 or later
abbrev pub join : Bool → ℕ → List Run → List Run
join false i rs = rs
join true i [] = record { left = i; right = i } ∷ []
join true i (r ∷ rs) = cond (leb r.left (suc i)) (record { left = i; right = r.right } ∷ rs) (record { left = i; right = i } ∷ r ∷ rs)

unfoldable pub runs_from : (ℕ → Bool) → ℕ → ℕ → List Run
runs_from f i zero = []
runs_from f i (suc n) = join (f i) i (runs_from f (suc i) n)

-- the longest runs of the columns below n at which f is true
unfoldable pub runs_of : (ℕ → Bool) → ℕ → List Run
runs_of f n = runs_from f 0 n

-- column i is in the span
abbrev pub in_span : Span → ℤ → Bool
in_span none i = false
in_span (from-to first last) i = le_z first i && le_z i last

abbrev pub any : {A : Type 0} → (A → Bool) → List A → Bool
any t [] = false
any t (e ∷ l) = t e || any t l

-- "A pixel is black when any segment makes it so"
abbrev pub black_at : List Pt → List Pt → ℤ → ℤ → Bool
black_at cs path j i = any (λ g. in_span (extent cs g j) i) (segments path)

-- the runs of row j, cut to the raster's columns
abbrev pub row_runs : List Pt → List Pt → ℕ → ℕ → List Run
row_runs cs path columns j = runs_of (λ x. black_at cs path (pos j) (pos x)) columns
