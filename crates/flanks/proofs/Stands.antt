-- A flank stands in a row where its edge is one of the outline's that the row meets, carried to that row; and the corners that the walk has passed are passed there, so that it
-- can go on from where it is. (From row to row a flank that stands stands again: Turns, Climbs.)
use Prim.Native.Nat.{ℕ, suc, ◌-◌, ◌≤◌, ◌<◌}
use mathlib.Core.Path.{◌≡◌}
use mathlib.Core.Logic.{◌⊎◌}
use mathlib.Core.Bool.{Bool, false}
use mathlib.Core.List.{List}
use lib.ListN.{get_or}
use lib.IntN.{ℤ, pos, ◌+ℤ◌, ◌*ℤ◌}
use Rattle.integers.specs.Orders.{◌≼◌, ◌≺◌}
use Rattle.integers.specs.Bound.{Abs}
use Rattle.plane.specs.Point.{Pt, pt}
use Rattle.ties.specs.Below.{below}
use Rattle.edge.proofs.Carried.{Carries, Near}
use Rattle.outline.specs.Outline.{put}
use Rattle.flanks.specs.declared.Ends.{Ends}
use Rattle.flanks.specs.declared.Flank.{Flank}
use Rattle.flanks.specs.Walk.{place_of, height_at}

-- ---- the ends, as points
abbrev pub lower : Ends → Pt
lower e = pt e.lx e.ly

abbrev pub upper : Ends → Pt
upper e = pt e.ux e.uy

-- ---- the numbers of a segment's ends and of a pen
pub record EndsSmall (e : Ends) : Type 0 where
  pub lx_small : Abs e.lx 262144
  pub ly_small : Abs e.ly 262144
  pub ux_small : Abs e.ux 262144
  pub uy_small : Abs e.uy 262144

pub record Sized (n : ℕ) (xs ys : List ℤ) (Dy : ℤ) (e : Ends) : Type 0 where
  pub level : e.ly ≼ e.uy
  pub ends : EndsSmall e
  pub x_small : (i : ℕ) → i < n → Abs (get_or xs i (pos 0)) 128
  pub y_small : (i : ℕ) → i < n → Abs (get_or ys i (pos 0)) 128
  pub highest : (i : ℕ) → i < n → get_or ys i (pos 0) ≼ Dy
  pub lowest : (i : ℕ) → i < n → get_or ys 0 (pos 0) ≼ get_or ys i (pos 0)

-- ---- what is known of one flank beside them: which edges are the outline's on this side of it. T is the corner at the place t
pub record Known (n : ℕ) (xs ys : List ℤ) (Dy : ℤ) (left : Bool) (e : Ends) (t : ℕ) (On : Pt → Pt → Type 0) : Type 0 where
  pub sized : Sized n xs ys Dy e
  pub held : t < n
  pub top : (k : ℕ) × (k ≤ n - 1) × (get_or ys (place_of k n left) (pos 0) ≡ Dy)
  -- a rising edge of the side is one of the outline's at the lower end where it begins below T, and at the upper one where it ends above; and so is T from end to end
  pub at_lower_lem : (c : ℕ) → suc c < n →
      let P = pt (get_or xs (place_of c n left) (pos 0)) (get_or ys (place_of c n left) (pos 0)) in
      let Q = pt (get_or xs (place_of (suc c) n left) (pos 0)) (get_or ys (place_of (suc c) n left) (pos 0)) in
      P.y ≺ Q.y → P.y ≺ get_or ys t (pos 0) → On (put (lower e) P) (put (lower e) Q)
  pub at_upper_lem : (c : ℕ) → suc c < n →
      let P = pt (get_or xs (place_of c n left) (pos 0)) (get_or ys (place_of c n left) (pos 0)) in
      let Q = pt (get_or xs (place_of (suc c) n left) (pos 0)) (get_or ys (place_of (suc c) n left) (pos 0)) in
      P.y ≺ Q.y → get_or ys t (pos 0) ≺ Q.y → On (put (upper e) P) (put (upper e) Q)
  pub along : e.ly ≺ e.uy → let T = pt (get_or xs t (pos 0)) (get_or ys t (pos 0)) in On (put (lower e) T) (put (upper e) T)

module _ (n : ℕ) (xs ys : List ℤ) (Dy : ℤ) (left : Bool) (e : Ends) (On : Pt → Pt → Type 0) where
  -- the height of corner i of the side, and of the place t
  abbrev pub high : ℕ → ℤ
  high i = height_at ys n left i

  abbrev pub tip : ℕ → ℤ
  tip t = pos 8 *ℤ get_or ys t (pos 0)

  -- corner i is passed at the height h: at the upper end, or at the lower one and no higher than the tangent
  abbrev pub Passed : ℕ → ℤ → ℕ → Type 0
  Passed t h i = (below h (e.uy +ℤ high i) ≡ false) ⊎ ((below h (e.ly +ℤ high i) ≡ false) × (high i ≼ tip t))

  -- a flank whose walk has come to corner k can turn at the height h
  pub record Ready (f : Flank) (h : ℤ) : Type 0 where
    pub known : Known n xs ys Dy left e f.tangent On
    pub passed : (i : ℕ) → i ≤ f.corner → Passed f.tangent h i

  -- and it stands there
  pub record Stands (f : Flank) (h : ℤ) : Type 0 where
    pub P : Pt
    pub Q : Pt
    pub on : On P Q
    pub rising : P.y ≺ Q.y
    pub reach : Near P.x P.y Q.x Q.y h
    pub from : P.y ≼ h
    pub to : h ≼ Q.y
    pub top : f.top ≼ Q.y
    pub carries : Carries P.x P.y Q.x Q.y h f.edge
    pub ready : Ready f h
