-- What is refused, held against the table of refusals: as a start is in the greatest raster, where 4 never applies, and with no list, where 7 never does.
use Prim.Native.Nat.{ℕ, ◌<◌}
use native.Mathlib.Omega.{arith}
use mathlib.Core.Path.{◌≡◌, refl, sym, subst}
use mathlib.Core.Logic.Iff
use mathlib.Core.Logic.{◌⊎◌, inl, inr, ◌↔◌}
use mathlib.Core.List.{List, []}
use lib.ListN.{length}
use lib.IntN.{ℤ}
use Rattle.limits.specs.declared.Verdict.{Verdict}
use Rattle.limits.specs.declared.Verdict.TheVariants.{Passed, Refused}
use Rattle.limits.specs.Sizes.{raster_max}
use Rattle.limits.specs.Exactly.{◌when◌else◌, done, BadRaster, BadRow, BadCoordinate, NoRoom}
use Rattle.aperture.specs.declared.Table.{Table}
use Rattle.aperture.specs.Refusals.{NoPen}
use Rattle.std.specs.Prelude.{Option, None}
use Rattle.extent.specs.declared.Extent.{Extent}
use Rattle.checks.specs.declared.Answer.{Answer}
use Rattle.checks.specs.Refuses.{Refuses}
use Rattle.engine.proofs.Theorems.{start_refuses}
use Rattle.uncut.specs.Uncut.{reach_verdict, reached_by, reached_in}
use Rattle.uncut.specs.Theorems.{ReachRefuses}
use Rattle.uncut.proofs.Reaching.{own, reach_is_start}

-- ---- lines of the table
-- one that never applies can be left out
never : {n : ℕ} {A : Type 0} (rest : ℕ → Type 0) → ¬ A → (k : ℕ) → (n when A else rest) k ↔ rest k
never rest h k = ((λ s. elim s [ inl a ↦ absurd (h a.0) | inr b ↦ b.1 ]), λ r. inr (h, r))

-- and what stands in one, or after it, can be said in other words
reworded : {n : ℕ} {A B : Type 0} {rest rest' : ℕ → Type 0} → A ↔ B → ((k : ℕ) → rest k ↔ rest' k) → (k : ℕ) → (n when A else rest) k ↔ (n when B else rest') k
reworded f g k = (
  λ s. elim s [ inl a ↦ inl (f.0 a.0, a.1) | inr b ↦ inr ((λ c. b.0 (f.1 c)), (g k).0 b.1) ],
  λ s. elim s [ inl a ↦ inl (f.1 a.0, a.1) | inr b ↦ inr ((λ c. b.0 (f.0 c)), (g k).1 b.1) ],
)

same : {A : Type 0} → A ↔ A
same = ((λ a. a), λ a. a)

-- the greatest raster is none that is bad; nothing has room in nothing
no_raster : ¬ BadRaster raster_max raster_max
no_raster (inl b) = elim b [ inl h ↦ omega arith | inr h ↦ omega arith ]
no_raster (inr b) = elim b [ inl h ↦ omega arith | inr h ↦ omega arith ]

no_need : ¬ NoRoom 0 0
no_need h = omega (arith, h)

above : (j : ℕ) → BadRow raster_max j ↔ (16383 < j)
above j = ((λ h. omega (arith, h)), λ h k. omega arith)

-- ---- from the last line to the first
module _ (Coordinate : Type 0) (j : ℕ) where
  abbrev Long : ℕ → Type 0
  Long = 5 when BadRow raster_max j else 3 when Coordinate else 7 when NoRoom 0 0 else done

  abbrev Short : ℕ → Type 0
  Short = 5 when (16383 < j) else 3 when Coordinate else done

  no_room : (k : ℕ) → (3 when Coordinate else 7 when NoRoom 0 0 else done) k ↔ (3 when Coordinate else done) k
  no_room = reworded same (never {n = 7} done no_need)

  row_above : (k : ℕ) → Long k ↔ Short k
  row_above = reworded (above j) no_room

  without_raster : (k : ℕ) → (4 when BadRaster raster_max raster_max else Long) k ↔ Short k
  without_raster k = let first : (4 when BadRaster raster_max raster_max else Long) k ↔ Long k = never Long no_raster k in Iff.trans first (row_above k)

  table : {NoPen Bad : Type 0} (k : ℕ) → (6 when NoPen else 2 when Bad else 4 when BadRaster raster_max raster_max else Long) k ↔ (6 when NoPen else 2 when Bad else Short) k
  table = reworded same (reworded same without_raster)

-- ---- what is answered beside the number
uncounted : (v : Verdict) (e : Option Extent) → (reached_by v e).answer.count ≡ 0
uncounted Passed e = refl
uncounted (Refused n place) e = refl

untold : (v : Verdict) (e : Option Extent) → ¬ ((reached_by v e).answer.refusal ≡ 0) → (reached_by v e).extent ≡ None
untold Passed e h = absurd (h refl)
untold (Refused n place) e h = refl

module _ (t : Table) (n : ℕ) (p : List ℤ) (j : ℕ) where
  no_count : (reached_in t n p j).answer.count ≡ 0
  unfolding reached_in
  no_count = uncounted (reach_verdict t n p j) (own t n p j)

  no_extent : ¬ ((reached_in t n p j).answer.refusal ≡ 0) → (reached_in t n p j).extent ≡ None
  unfolding reached_in
  no_extent = untold (reach_verdict t n p j) (own t n p j)

-- ---- all of it
pub reach_refuses : ReachRefuses
reach_refuses t n p j =
    let r = subst (λ (a : Answer). Refuses {A = ℕ} 6 (NoPen t n) (¬ ((length p ≡ 2) ⊎ (length p ≡ 4))) p raster_max raster_max j 0 0 [] (record { answer = a; list = [] }))
    (sym (reach_is_start t n p j)) (start_refuses t n p raster_max raster_max j) in
    record {
      exactly = λ k. Iff.trans (r.exactly k) (table (BadCoordinate p) j k);
      first = r.first;
      nowhere = r.nowhere;
      count = no_count t n p j;
      none = no_extent t n p j;
    }
