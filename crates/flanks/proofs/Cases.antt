-- The definitions of a row up in either case of their tests: a flank on its edge, or past it; a row that meets the sweep, or not.
use mathlib.Core.Path.{◌≡◌}
use mathlib.Core.Bool.{Bool, true, false}
use mathlib.Core.List.{List}
use Prim.Native.Nat.{ℕ}
use lib.IntN.{ℤ, pos, ◌*ℤ◌}
use Rattle.ties.specs.Below.{below}
use Rattle.edge.specs.Edge.{raised}
use Rattle.flanks.specs.declared.Ends.{Ends}
use Rattle.flanks.specs.declared.Flank.{Flank}
use Rattle.flanks.specs.declared.Flanks.{Flanks}
use Rattle.flanks.specs.Flanks.{held_of, inside, turned, climbed, risen}
use Rattle.flanks.proofs.Numbers.{flank, flanks}

-- ---- one flank
module _ (f : Flank) (xs ys : List ℤ) (n : ℕ) (left : Bool) (e : Ends) (h : ℤ) where
  pub climbed_on : below h f.top ≡ true → climbed f xs ys n left e h ≡ flank (raised f.edge) f.top f.corner f.tangent
  unfolding climbed
  climbed_on t = rw t

  pub climbed_past : below h f.top ≡ false → climbed f xs ys n left e h ≡ turned f xs ys n left e h
  unfolding climbed
  climbed_past t = rw t

-- ---- both
module _ (count : ℕ) (xs ys : List ℤ) (f : Flanks) (row : ℕ) where
  abbrev pub climbing : ℤ → Flanks
  climbing h =
      let n = held_of count xs ys in
      flanks f.ends f.low f.high (climbed f.left xs ys n true f.ends h) (climbed f.right xs ys n false f.ends h)

  pub risen_outside : inside f row ≡ false → risen count xs ys f row ≡ f
  unfolding risen
  risen_outside e = rw e

  pub risen_inside : inside f row ≡ true → risen count xs ys f row ≡ climbing (pos 16 *ℤ pos row)
  unfolding risen
  risen_inside e = rw e
