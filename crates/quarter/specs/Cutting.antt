-- Document 01, "Building the pen": the corners of the lower right quarter, cut by steps 1 to 5.
-- All numbers count half pixels. The quarter has x >= 0 and y <= 0; here y is measured DOWNWARDS, so that document 01's y is minus ours, all numbers
-- are natural, and an edge's line v*x - u*y = c reads v * x + u * y ≡ c.
use Rattle.std.specs.Prelude.{ℕ, zero, suc, ◌+◌, ◌*◌, ◌-◌, ◌/◌, min, Bool, true, false, List, [], ◌∷◌, ltb, eqb}
use Rattle.setting.specs.declared.Setting.{Setting}
use Rattle.quarter.specs.declared.Edge.{Edge}
use Rattle.setting.specs.Setting.{Dx, Dy}
use Rattle.quarter.specs.NearRoot.{norm, near_root}

pub record Corner : Type 0 where
  pub x : ℕ
  pub y : ℕ

-- the corner (x, y) that is nearest the bottom and not yet put out, the edge before it, and the edges after it
pub record State : Type 0 where
  pub x : ℕ
  pub y : ℕ
  pub before : Edge
  pub after : List Edge

-- how many directions long an edge is
abbrev pub size : Edge → ℕ
size e = e.l1 + e.l2

-- "Start with the corner (Dx, -Dy), the edge before it (1,0) with c = Dy, l1 = l2 = Dx, and the edge after it (0,1) with c = Dx, l1 = l2 = Dy"
abbrev pub first : Setting → State
first σ = record {
  x = Dx σ;
  y = Dy σ;
  before = record { u = 1; v = 0; c = Dy σ; l1 = Dx σ; l2 = Dx σ };
  after = record { u = 0; v = 1; c = Dx σ; l1 = Dy σ; l2 = Dy σ } ∷ [];
}

-- Steps 1 and 2: the s by which the corner between L and R is cut; 0 where it is put out. (Where document 01's s is negative, so that the corner is put
-- out, the difference here is 0.)
unfoldable pub amount : Setting → Edge → Edge → ℕ
amount σ L R = elim (ltb (1 + L.v * R.u) (L.u * R.v)) [
  | true ↦ 0
  | false ↦ min (min L.l2 R.l1) (L.c + R.c - near_root σ (L.u + R.u) (L.v + R.v))
]

-- Step 3: "the new edge has the summed direction and offset L.c + R.c - s"; its counts are l1 and l2
abbrev pub cut_edge : Edge → Edge → ℕ → ℕ → ℕ → Edge
cut_edge L R s l1 l2 = record { u = L.u + R.u; v = L.v + R.v; c = L.c + R.c - s; l1 = l1; l2 = l2 }

-- Step 3: "L.l2 and R.l1 fall by s"
abbrev pub short_l : Edge → ℕ → Edge
short_l L s = record { u = L.u; v = L.v; c = L.c; l1 = L.l1; l2 = L.l2 - s }

abbrev pub short_r : Edge → ℕ → Edge
short_r R s = record { u = R.u; v = R.v; c = R.c; l1 = R.l1 - s; l2 = R.l2 }

-- Step 4: "l1 is the nearest whole number (half goes up) to (p²vc - x(p²v²+q²u²)) / (u(p²v²+q²u²)), x being its start's, brought into 0..s".
-- (A numerator below 0 gives 0 either way.)
unfoldable pub retained : Setting → ℕ → ℕ → ℕ → ℕ → ℕ → ℕ
retained σ u v c x s =
    let n = norm σ u v in
    min s ((2 * (σ.p * σ.p * v * c - x * n) + u * n) / (2 * (u * n)))

-- the same for the new edge that cuts s off the corner at x between L and R, which starts s directions back along L
abbrev pub retained_at : Setting → ℕ → ℕ → Edge → Edge → ℕ
retained_at σ x s L R = retained σ (L.u + R.u) (L.v + R.v) (L.c + R.c - s) (x - s * L.u) s

-- Steps 3 and 4, where s is all of L and all of R; all of L alone; all of R alone; neither. The edge "runs from s directions back along L to s
-- directions on along R", and the next corner is the first that is not out: the new edge's end where L is gone, its start where L is left.
abbrev pub cut_both : ℕ → ℕ → ℕ → Edge → Edge → List Edge → State
cut_both x y s L R rest = record
    { x = x + s * R.u; y = y - s * R.v; before = cut_edge L R s L.l1 L.l2; after = rest }

abbrev pub cut_left : ℕ → ℕ → ℕ → Edge → Edge → List Edge → State
cut_left x y s L R rest = record
    { x = x + s * R.u; y = y - s * R.v; before = cut_edge L R s L.l1 L.l2; after = short_r R s ∷ rest }

abbrev pub cut_right : ℕ → ℕ → ℕ → Edge → Edge → List Edge → State
cut_right x y s L R rest = record
    { x = x - s * L.u; y = y + s * L.v; before = short_l L s; after = cut_edge L R s R.l1 R.l2 ∷ rest }

abbrev pub cut_new : ℕ → ℕ → ℕ → ℕ → Edge → Edge → List Edge → State
cut_new x y s l L R rest = record
    { x = x - s * L.u; y = y + s * L.v; before = short_l L s; after = cut_edge L R s l (s - l) ∷ short_r R s ∷ rest }

abbrev pub cut_by : Bool → Bool → Setting → ℕ → ℕ → ℕ → Edge → Edge → List Edge → State
cut_by true true σ x y s L R rest = cut_both x y s L R rest
cut_by true false σ x y s L R rest = cut_left x y s L R rest
cut_by false true σ x y s L R rest = cut_right x y s L R rest
cut_by false false σ x y s L R rest = cut_new x y s (retained_at σ x s L R) L R rest

-- "Where s was all of L (l1 + l2 before the cut) ..; otherwise, where s was all of R .."
abbrev pub cut : Setting → ℕ → ℕ → ℕ → Edge → Edge → List Edge → State
cut σ x y s L R rest = cut_by (eqb s (size L)) (eqb s (size R)) σ x y s L R rest

-- Step 5: the corner (x, y) before R is put out, R "drops its retained point: l2 becomes l1 + l2, and l1 becomes 0", and the next corner is R's end
abbrev pub passed : ℕ → ℕ → Edge → List Edge → State
passed x y R rest = record
    { x = x + size R * R.u; y = y - size R * R.v; before = record { u = R.u; v = R.v; c = R.c; l1 = 0; l2 = size R }; after = rest }

-- One round of the steps: no corner is left; the corner is put out; it is cut
pub data Step : Type 0 where
  ended : Step
  put : State → Step
  on : State → Step

abbrev pub act : ℕ → Setting → ℕ → ℕ → Edge → Edge → List Edge → Step
act zero σ x y L R rest = put (passed x y R rest)
act (suc s) σ x y L R rest = on (cut σ x y (suc s) L R rest)

abbrev pub step_at : List Edge → Setting → ℕ → ℕ → Edge → Step
step_at [] σ x y L = ended
step_at (R ∷ rest) σ x y L = act (amount σ L R) σ x y L R rest

abbrev pub step : Setting → State → Step
step σ t = step_at t.after σ t.x t.y t.before

-- the corners that are put out from a state on, in at most f rounds
unfoldable pub corners : Setting → ℕ → State → List Corner
corners σ zero t = []
corners σ (suc f) t = elim (step σ t) [
  | ended ↦ []
  | put r ↦ record { x = t.x; y = t.y } ∷ corners σ f r
  | on r ↦ corners σ f r
]

-- "The quarter ends when no corner is left." The sum of l1 + l2 over all edges falls with each round, so its first value is rounds enough
-- (`quarter_puts` of proofs/Theorems: these are the corners that the steps put out with no count of rounds).
unfoldable pub quarter : Setting → List Corner
quarter σ = corners σ (2 * Dx σ + 2 * Dy σ) (first σ)
