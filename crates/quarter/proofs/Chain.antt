-- What a quarter's corners are: a chain of edges, each steeper than the one before.
-- The invariant of the cutting (Invariant) says of its edges what a chain says of the corners, so that the quarter is a chain (Quarters), and all laws
-- of its corners follow from that (Ranges; Convex of the crate pen).
use Prim.Native.Nat.{ℕ, ◌+◌, ◌*◌, ◌≤◌, ◌<◌}
use mathlib.Core.Path.{◌≡◌}
use mathlib.Core.List.{List, [], ◌∷◌}
use Rattle.quarter.specs.Cutting.{Corner}

-- The edge with direction (u, v), after one with direction (pu, pv), comes to (x, y) l directions after (a, b); k directions of it lie before (a, b).
-- k is 0 but for the bottom edge, whose middle is (a, b).
pub record Link (k pu pv a b l u v x y : ℕ) : Type 0 where
  pub right : 1 ≤ u
  pub up : 1 ≤ v + k
  pub level : k * v ≡ 0
  pub long : 1 ≤ k + l
  pub turn : pv * u < pu * v + k
  pub across : x ≡ a + l * u
  pub down : b ≡ y + l * v

-- the corners after (a, b), to which an edge with direction (pu, pv) leads; the last is D to the right
pub data Chain (D : ℕ) : ℕ → ℕ → ℕ → ℕ → ℕ → List Corner → Type 0 where
  stop : {pu pv a b : ℕ} → a ≡ D → Chain D 0 pu pv a b []
  link :
      {k pu pv a b : ℕ} (l u v : ℕ) {c : Corner} {cs : List Corner} → Link k pu pv a b l u v c.x c.y → Chain D 0 u v c.x c.y cs →
      Chain D k pu pv a b (c ∷ cs)
