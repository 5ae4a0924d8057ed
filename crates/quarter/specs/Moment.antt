-- The quarter on the way: every state that the steps come to, with the corners put out so far.
use Rattle.std.specs.Prelude.{ℕ, ◌+◌, ◌*◌, ◌≤◌, ◌≡◌, List, [], ◌∷◌, ◌++◌, length}
use Rattle.limits.specs.Sizes.{quarter_max}
use Rattle.setting.specs.declared.Setting.{Setting}
use Rattle.quarter.specs.declared.Edge.{Edge}
use Rattle.quarter.specs.Cutting.{Corner, State, size, first, amount, step, put, on}

pub data Moment (σ : Setting) : List Corner → State → Type 0 where
  start : Moment σ [] (first σ)
  puts : {out : List Corner} {t r : State} → Moment σ out t → step σ t ≡ put r → Moment σ (out ++ (record { x = t.x; y = t.y } ∷ [])) r
  cuts : {out : List Corner} {t r : State} → Moment σ out t → step σ t ≡ on r → Moment σ out r

-- how many corners there are at a moment: those put out, and one before each edge that comes after
abbrev pub corners_at : List Corner → State → ℕ
corners_at out t = length out + length t.after

-- the sum of l1 + l2 over all edges from the current one on; it falls with each round
unfoldable pub sum : List Edge → ℕ
sum [] = 0
sum (e ∷ es) = size e + sum es

abbrev pub total : State → ℕ
total t = size t.before + sum t.after

-- an edge's numbers are small
pub record Small (e : Edge) : Type 0 where
  pub u_small : e.u ≤ 32
  pub v_small : e.v ≤ 32
  pub c_small : e.c ≤ 4096
  pub l1_small : e.l1 ≤ 64
  pub l2_small : e.l2 ≤ 64

-- the sum of the directions of two small edges
pub record Summed (u v : ℕ) : Type 0 where
  pub u_small : u ≤ 64
  pub v_small : v ≤ 64

-- at the corner (x, y) between L and R a cut by s leaves no number below 0
pub record Cuttable (x y s : ℕ) (L R : Edge) : Type 0 where
  pub left : s ≤ L.l2
  pub right : s ≤ R.l1
  pub across : s * L.u ≤ x
  pub down : s * R.v ≤ y
  pub offset : s ≤ L.c + R.c

-- what holds at every corner that is not yet put out; R is the first edge after it
pub record Ready (σ : Setting) (t : State) (R : Edge) : Type 0 where
  pub x_small : t.x ≤ 32
  pub y_small : t.y ≤ 32
  pub before : Small t.before
  pub after : Small R
  pub rightward : 1 ≤ t.before.u
  pub cuttable : Cuttable t.x t.y (amount σ t.before R) t.before R
  pub room : (r : State) → step σ t ≡ on r → length r.after ≤ quarter_max
