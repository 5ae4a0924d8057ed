-- A flank from row to row, from the first row that is asked for. Below the sweep it waits, as it was begun; in every row of the sweep it stands.
use Prim.Native.Nat.{ℕ, zero, suc, ◌+◌, ◌<◌}
use native.Mathlib.Nat.{le_of_lt}
use native.Mathlib.Omega.{arith}
use mathlib.Core.Path.{◌≡◌, refl, sym, subst}
use mathlib.Core.Logic.{◌⊎◌, inl, inr}
use mathlib.Core.Bool.{Bool, true, false, not, cond, ◌&&◌}
use mathlib.Core.List.{List, []}
use lib.Dec.{leb→le}
use lib.ListN.{get_or}
use lib.IntN.{ℤ, pos, ◌+ℤ◌, ◌*ℤ◌}
use Rattle.integers.specs.Orders.{◌≼◌}
use Rattle.integers.proofs.Ring.{reify, here}
use Rattle.integers.proofs.Tests.{clash}
use Rattle.integers.proofs.Bound.{abs_le, abs_mul, abs_pos}
use Rattle.limits.specs.Sizes.{raster_max}
use Rattle.plane.specs.Point.{Pt}
use Rattle.ties.specs.Below.{below}
use Rattle.ties.proofs.Heights.{below_laws}
use Rattle.edge.specs.Edge.{near}
use Rattle.edge.proofs.Bounds.{bound_test}
use Rattle.flanks.specs.declared.Ends.{Ends}
use Rattle.flanks.specs.declared.Flank.{Flank}
use Rattle.flanks.specs.Flanks.{idle, climbed, inside_of}
use Rattle.flanks.proofs.Stands.{Known, Stands}
use Rattle.flanks.proofs.Climbs.{climbed_stands, first_stands}

-- the height of a row, and of the next one
abbrev pub height : ℕ → ℤ
height j = pos 16 *ℤ pos j

next_height : (j : ℕ) → height j +ℤ pos 16 ≡ height (suc j)
next_height j = here [] λ ρ. simp (reify, ρ) (omega arith)

higher_row : (j : ℕ) → height j ≼ height (suc j)
higher_row j = here [] λ ρ. simp (reify, ρ) (omega arith)

-- a row's height is within reach of an edge's numbers
row_near : (j : ℕ) → j < raster_max → near (height j) ≡ true
row_near j h = bound_test 263168 (height j) (abs_le (leb→le _ 263168 tt) (abs_mul (abs_pos 16 {a = 16} (leb→le 16 16 tt)) (abs_pos j (le_of_lt h))))

-- ---- one flank by itself
module _ (n : ℕ) (xs ys : List ℤ) (left : Bool) (e : Ends) (low high : ℤ) where
  -- in row j, from the row before
  abbrev pub next : Flank → ℕ → Flank
  next f j = cond (inside_of low high j) (climbed f xs ys n left e (height j)) f

  -- from the row j in which it was begun, k rows further up
  abbrev pub flank_at : ℕ → ℕ → ℕ → Flank
  flank_at t j zero = next (idle low t) j
  flank_at t j (suc k) = next (flank_at t j k) (j + suc k)

-- it waits below the sweep, and stands in it
pub record There (n : ℕ) (xs ys : List ℤ) (Dy : ℤ) (left : Bool) (e : Ends) (t : ℕ) (On : Pt → Pt → Type 0) (low high : ℤ) (f : Flank) (j : ℕ) : Type 0 where
  pub waits : below (height j) low ≡ true → f ≡ idle low t
  pub stands : below (height j) low ≡ false → below (height j) high ≡ true → Stands n xs ys Dy left e On f (height j)

module _ (n : ℕ) (xs ys : List ℤ) (Dy : ℤ) (left : Bool) (e : Ends) (t : ℕ) (On : Pt → Pt → Type 0) (K : Known n xs ys Dy left e t On) (low high : ℤ)
    (low_is : low ≡ e.ly +ℤ pos 8 *ℤ get_or ys 0 (pos 0)) (high_is : high ≡ e.uy +ℤ pos 8 *ℤ Dy) where
  abbrev Here : Flank → ℕ → Type 0
  Here = There n xs ys Dy left e t On low high

  -- what it takes to come to a row of the sweep: it waited, or stood in the row before
  Before : Flank → ℕ → Type 0
  Before f j = (f ≡ idle low t) ⊎ ((i : ℕ) × (suc i ≡ j) × Stands n xs ys Dy left e On f (height i))

  comes : (f : Flank) (j : ℕ) → near (height j) ≡ true → Before f j → below (height j) low ≡ false → below (height j) high ≡ true →
      Stands n xs ys Dy left e On (climbed f xs ys n left e (height j)) (height j)
  unfolding Before
  comes f j m (inl w) a u =
      rw (w, low_is)
      (first_stands n xs ys Dy left e On t (height j) K m (subst (λ (y : ℤ). below (height j) y ≡ false) low_is a) (subst (λ (y : ℤ). below (height j) y ≡ true) high_is u))
  comes f j m (inr s) a u =
      let i = s.0 in
      let up : height i +ℤ pos 16 ≡ height j = rw (← s.1) (next_height i) in
      subst (λ (h : ℤ). Stands n xs ys Dy left e On (climbed f xs ys n left e h) h) up
      (climbed_stands n xs ys Dy left e On f (height i) s.2
      (subst (λ (h : ℤ). near h ≡ true) (sym up) m) (subst (λ (h : ℤ). below h (e.uy +ℤ pos 8 *ℤ Dy) ≡ true) (sym up) (subst (λ (y : ℤ). below (height j) y ≡ true) high_is u)))

  comes_there : (f : Flank) (j : ℕ) → near (height j) ≡ true → (below (height j) low ≡ true → f ≡ idle low t) → (below (height j) low ≡ false → below (height j) high ≡ true → Before f j) → Here (next n xs ys left e low high f j) j
  comes_there f j m w b = go (below (height j) low) refl (below (height j) high) refl
    where
      go : (l : Bool) → below (height j) low ≡ l → (u : Bool) → below (height j) high ≡ u → Here (cond (not l && u) (climbed f xs ys n left e (height j)) f) j
      go true p u q = record { waits = w; stands = λ a _. absurd (clash p a) }
      go false p true q = record { waits = λ a. absurd (clash a p); stands = λ _ _. comes f j m (b p q) p q }
      go false p false q = record { waits = λ a. absurd (clash a p); stands = λ _ a. absurd (clash a q) }

  -- from a row to the next
  goes_on : (f : Flank) (j : ℕ) → near (height (suc j)) ≡ true → Here f j → Here (next n xs ys left e low high f (suc j)) (suc j)
  unfolding Before
  goes_on f j m s =
      comes_there f (suc j) m (λ p. s.waits (below_laws.lower (height j) (height (suc j)) low (higher_row j) p))
      (λ p q. before (below (height j) low) refl (below_laws.lower (height j) (height (suc j)) high (higher_row j) q))
    where
      before : (l : Bool) → below (height j) low ≡ l → below (height j) high ≡ true → Before f (suc j)
      before true a u = inl (s.waits a)
      before false a u = inr (j, refl, s.stands a u)

  -- so in every row of a raster
  pub is_there : (j k : ℕ) → j + k < raster_max → There n xs ys Dy left e t On low high (flank_at n xs ys left e low high t j k) (j + k)
  unfolding Before
  is_there j zero m =
      let i : j ≡ j + 0 = omega arith in
      subst (Here (flank_at n xs ys left e low high t j 0)) i (comes_there (idle low t) j (row_near j (omega (arith, m))) (λ _. refl) (λ _ _. inl refl))
  is_there j (suc k) m =
      let i : suc (j + k) ≡ j + suc k = omega arith in
      let f = flank_at n xs ys left e low high t j k in
      subst (λ (r : ℕ). Here (next n xs ys left e low high f r) r) i (goes_on f (j + k) (row_near (suc (j + k)) (omega (arith, m))) (is_there j k (omega (arith, m))))
