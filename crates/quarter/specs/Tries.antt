-- Document 02, W3: "find it by halving the interval, with at most 16 middle values tried for any direction met in building a pen. No answer changes."
-- The search stands here as rules without a count, so that how many values are tried is for the theorems to say.
use Rattle.std.specs.Prelude.{ℕ, ◌+◌, ◌*◌, ◌-◌, ◌/◌, ◌<◌, min, ◌≡◌, true, false, List, [], ◌∷◌, leb}
use Rattle.setting.specs.declared.Setting.{Setting}
use Rattle.quarter.specs.declared.Edge.{Edge}
use Rattle.quarter.specs.declared.Interval.{Interval}
use Rattle.quarter.specs.NearRoot.{norm, lower}

-- the middle value; of an even number of values the upper one
abbrev pub middle : Interval → ℕ
middle i = (i.low + i.high + 1) / 2

-- what one try leaves of the interval: the middle and what is above it, where f is at most t there; otherwise what is below
unfoldable pub halved : (ℕ → ℕ) → ℕ → Interval → Interval
halved f t i = elim (leb (f (middle i)) t) [ true ↦ record { low = middle i; high = i.high } | false ↦ record { low = i.low; high = middle i - 1 } ]

-- from the interval i the search tries the middle values `tried`, one after another, until one value is left, which is `found`
pub data Search (f : ℕ → ℕ) (t : ℕ) : Interval → List ℕ → ℕ → Type 0 where
  one : {i : Interval} → i.low ≡ i.high → Search f t i [] i.low
  more : {i : Interval} {tried : List ℕ} {found : ℕ} → i.low < i.high → Search f t (halved f t i) tried found → Search f t i (middle i ∷ tried) found

-- where the near root is sought at the corner between L and R: the cut is at least 0 and at most min(L.l2, R.l1), so that a root outside is as good as the
-- nearer end
abbrev pub sought : Edge → Edge → Interval
sought L R = record { low = L.c + R.c - min L.l2 R.l1; high = L.c + R.c }

-- the search for the near root of the summed direction, at the corner between L and R
abbrev pub SearchAt : Setting → Edge → Edge → List ℕ → ℕ → Type 0
SearchAt σ L R = Search (lower σ) (σ.w * σ.w * norm σ (L.u + R.u) (L.v + R.v)) (sought L R)
