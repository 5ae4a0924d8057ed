-- What is proved of the quarter, for every setting within the limits. Each claim is a type; proofs/Theorems.antt proves it under the same name.
use Rattle.std.specs.Prelude.{ℕ, ◌+◌, ◌*◌, ◌-◌, ◌≤◌, ◌<◌, ◌≡◌, List, [], ◌∷◌, map, length}
use Rattle.integers.specs.Count.{◌∈◌}
use Rattle.limits.specs.Sizes.{quarter_max}
use Rattle.setting.specs.declared.Setting.{Setting}
use Rattle.setting.specs.Setting.{Taken}
use Rattle.quarter.specs.declared.Edge.{Edge}
use Rattle.quarter.specs.declared.Interval.{Interval}
use Rattle.quarter.specs.NearRoot.{NearRoot, near_root}
use Rattle.quarter.specs.Cutting.{Corner, State, amount, step, put, on, quarter}
use Rattle.quarter.specs.Steps.{EdgeZ, CornerZ, start_corner, start_before, start_after, Puts, Comes, On, Lie}
use Rattle.quarter.specs.Answer.{across, upwards}
use Rattle.quarter.specs.Moment.{Moment, corners_at, total, Ready}
use Rattle.quarter.specs.Tries.{halved, SearchAt}

-- the near root's inequality holds of the number that is computed, for every direction that building a pen can ask for, and determines it
abbrev pub NearRootHolds : Type 0
NearRootHolds = (σ : Setting) → Taken σ → (u v : ℕ) → 1 ≤ u → u ≤ 64 → v ≤ 64 → NearRoot σ u v (near_root σ u v)

abbrev pub NearRootUnique : Type 0
NearRootUnique = (σ : Setting) → Taken σ → (u v m n : ℕ) → NearRoot σ u v m → NearRoot σ u v n → m ≡ n

-- the steps end: each round takes something off a sum that starts at 2Dx + 2Dy
abbrev pub StepsFall : Type 0
StepsFall = (σ : Setting) → Taken σ → (out : List Corner) (t : State) → Moment σ out t →
    ((r : State) → step σ t ≡ put r → total r < total t) × ((r : State) → step σ t ≡ on r → total r < total t)

-- "The pen is the one that document 01's steps give": the quarter's corners, y upwards, are what the steps put out from the start ..
abbrev pub corner_z : Corner → CornerZ
corner_z c = record { x = across c; y = upwards c }

abbrev pub QuarterPuts : Type 0
QuarterPuts = (σ : Setting) → Taken σ → Puts σ (start_corner σ) (start_before σ) (start_after σ ∷ []) (map corner_z (quarter σ))

-- .. and the steps put out no other list, from whatever corner and edges, for whatever setting
abbrev pub PutsUnique : Type 0
PutsUnique = (σ : Setting) (A : CornerZ) (L : EdgeZ) (edges : List EdgeZ) (cs ds : List CornerZ) → Puts σ A L edges cs → Puts σ A L edges ds → cs ≡ ds

-- "An edge has a direction (u, v), an offset c (it lies on v*x - u*y = c), and counts l1, l2": whatever the steps come to, the corner is on the line of the edge
-- before it, and the edges after it, each l1 + l2 directions long, lie on theirs
abbrev pub EdgesLie : Type 0
EdgesLie = (σ : Setting) (A : CornerZ) (L : EdgeZ) (edges : List EdgeZ) → Comes σ A L edges → On A L × Lie A edges

-- at every moment there are at most 33 corners, and where no edge is left those put out are the quarter
abbrev pub AtMost33 : Type 0
AtMost33 = (σ : Setting) → Taken σ → (out : List Corner) (t : State) → Moment σ out t → corners_at out t ≤ quarter_max

abbrev pub EndsWithQuarter : Type 0
EndsWithQuarter = (σ : Setting) → Taken σ → (out : List Corner) (t : State) → Moment σ out t → t.after ≡ [] → out ≡ quarter σ

-- no difference in the steps falls below 0, and all numbers are small
abbrev pub NothingBelowZero : Type 0
NothingBelowZero = (σ : Setting) → Taken σ → (out : List Corner) (t : State) → Moment σ out t → (R : Edge) (rest : List Edge) → t.after ≡ R ∷ rest → Ready σ t R

-- the quarter's corners are at most 33, and lie in the box
abbrev pub QuarterFew : Type 0
QuarterFew = (σ : Setting) → Taken σ → length (quarter σ) ≤ quarter_max

abbrev pub QuarterBox : Type 0
QuarterBox = (σ : Setting) → Taken σ → (c : Corner) → c ∈ quarter σ → (c.x ≤ 32) × (c.y ≤ 32)

-- Document 02, W3: "by halving the interval": a try leaves at most half of it, whatever is sought
abbrev pub TryHalves : Type 0
TryHalves = (f : ℕ → ℕ) (t : ℕ) (i : Interval) → i.low < i.high → 2 * ((halved f t i).high - (halved f t i).low) ≤ i.high - i.low

-- "with at most 16 middle values tried for any direction met in building a pen": at every corner that building a pen comes to
abbrev pub SixteenTries : Type 0
SixteenTries = (σ : Setting) → Taken σ → (out : List Corner) (t : State) → Moment σ out t → (R : Edge) (rest : List Edge) → t.after ≡ R ∷ rest →
    (tried : List ℕ) (found : ℕ) → SearchAt σ t.before R tried found → length tried ≤ 16

-- the search comes to an end, between any two edges
abbrev pub SearchEnds : Type 0
SearchEnds = (σ : Setting) (L R : Edge) → (tried : List ℕ) × (found : ℕ) × SearchAt σ L R tried found

-- "No answer changes": where step 1 does not put the corner out, it is cut by what step 2 says with the value that is found
abbrev pub SearchCuts : Type 0
SearchCuts = (σ : Setting) → Taken σ → (out : List Corner) (t : State) → Moment σ out t → (R : Edge) (rest : List Edge) → t.after ≡ R ∷ rest →
    t.before.u * R.v ≤ 1 + t.before.v * R.u →
    (tried : List ℕ) (found : ℕ) → SearchAt σ t.before R tried found → amount σ t.before R ≡ t.before.c + R.c - found
