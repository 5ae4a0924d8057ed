-- What the code's structs hold, in the words of the definitions. These are asked and promised inside the crate only; no promise to its callers is made
-- of them.
use Rattle.std.specs.Prelude.{ℕ, zero, suc, ◌+◌, ◌≤◌, ◌≡◌, List, ◌∷◌, set, ℤ}
use Rattle.setting.specs.declared.Setting.{Setting}
use Rattle.quarter.specs.declared.Edge.{Edge}
use Rattle.cutting.specs.declared.Work.{Work}
use Rattle.quarter.specs.declared.Quarter.{Quarter}
use Rattle.quarter.specs.Cutting.{State, Step, put, on, act}
use Rattle.quarter.specs.Moment.{Small, Cuttable}

-- m edges of two, and those that follow
abbrev pub front : {A : Type 0} → ℕ → A → A → List A → List A
front zero new last rest = rest
front (suc zero) new last rest = last ∷ rest
front (suc (suc m)) new last rest = new ∷ last ∷ rest

-- the edges after the corner are those in the place of the one that was there, and the rest
abbrev pub state : Work → List Edge → State
state t rest = record { x = t.x; y = t.y; before = t.before; after = front t.more t.new t.last rest }

-- n is what a step leads to, whatever edges follow
pub record Leads (n : Work) (to : List Edge → State) : Type 0 where
  pub few : n.more ≤ 2
  pub is : (rest : List Edge) → state n rest ≡ to rest

-- the corner can be cut by d, r being the edge after it
pub record Room (t : Work) (r : Edge) (d : ℕ) : Type 0 where
  pub x_small : t.x ≤ 32
  pub y_small : t.y ≤ 32
  pub before : Small t.before
  pub after : Small r
  pub rightward : 1 ≤ t.before.u
  pub cuttable : Cuttable t.x t.y d t.before r

-- a corner more; it is put out where the amount is 0
abbrev pub stored : Quarter → ℤ → ℤ → Quarter
stored q a b = record { count = q.count + 1; x = set q.x q.count a; y = set q.y q.count b }

abbrev pub put_out : ℕ → Quarter → ℤ → ℤ → Quarter
put_out zero q a b = stored q a b
put_out (suc d) q a b = q

abbrev pub outcome : ℕ → State → Step
outcome zero t = put t
outcome (suc d) t = on t

-- one round by the amount d: the corner is put out, or cut
pub record Stepped (σ : Setting) (t : Work) (r : Edge) (d : ℕ) (n : Work) : Type 0 where
  pub few : n.more ≤ 2
  pub is : (rest : List Edge) → act d σ t.x t.y t.before r rest ≡ outcome d (state n rest)
