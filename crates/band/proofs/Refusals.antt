-- What is checked of a band, held against the words; and a call for a row's refusals read as those of a call for a band.
use Prim.Native.Nat.{ℕ, ◌+◌, ◌-◌, ◌/◌, ◌≤◌, ◌<◌}
use native.Mathlib.Omega.{arith}
use native.Mathlib.Decide.{dec_lt}
use mathlib.Core.Path.{◌≡◌, refl}
use mathlib.Core.Logic.{◌⊎◌, inl, inr, ◌↔◌}
use mathlib.Core.Bool.{Bool, true, false, cond, ◌&&◌}
use mathlib.Core.List.{List}
use borrow.Author.Tests.{ltb-true, ltb-false, leb-true, leb-false}
use lib.Dec.{leb, ltb}
use lib.ListN.{length}
use lib.IntN.{ℤ}
use Rattle.integers.proofs.Tests.{and_both}
use Rattle.limits.specs.Exactly.{◌when◌else◌, done, BadRaster, BadRow, BadCoordinate, NoRoom}
use Rattle.bits.specs.Bits.{packed_length}
use Rattle.checks.specs.Answer.{Result}
use Rattle.checks.specs.Refuses.{Refuses}
use Rattle.band.specs.Band.{top_row, room_for}
use Rattle.band.specs.Refuses.{BadBand, NoBandRoom, RefusesBand}

either_fails : (a b : Bool) → (a && b) ≡ false → (a ≡ false) ⊎ (b ≡ false)
either_fails true b e = inr e
either_fails false b e = inl refl

-- ---- 5
module _ (rows first n : ℕ) where
  no_band : (first < rows → rows - first < n) → BadBand rows first n
  no_band h = elim (dec_lt first rows) [ yes l ↦ inr (inr (h l)) | no l ↦ inl l ]

  good_band : 0 < n → first + n ≤ rows → ¬ BadBand rows first n
  good_band h k b = elim b [ inl a ↦ a (omega arith) | inr c ↦ elim c [ inl z ↦ omega arith | inr z ↦ omega arith ] ]

  pub top_row_lem : BadRow rows (top_row rows first n) ↔ BadBand rows first n
  top_row_lem = go (ltb 0 n && leb (first + n) rows) refl
    where
      go : (t : Bool) → (ltb 0 n && leb (first + n) rows) ≡ t → BadRow rows (cond t (first + (n - 1)) rows) ↔ BadBand rows first n
      go true e =
          let b = and_both (ltb 0 n) (leb (first + n) rows) e in
          let some = ltb-true 0 n b.0 in
          let few = leb-true (first + n) rows b.1 in
          ((λ h. absurd (h (omega (arith, some, few)))), λ h. absurd (good_band some few h))
      go false e = (
        (λ h. elim (either_fails (ltb 0 n) (leb (first + n) rows) e) [
          | inl a ↦ inr (inl (omega (arith, ltb-false 0 n a)))
          | inr a ↦ no_band (λ l. omega (arith, l, leb-false (first + n) rows a))
        ]),
        λ h l. omega (arith, l),
      )

-- ---- 7
pub room_for_lem : (columns n stride len : ℕ) → 1 ≤ n → NoRoom n (room_for columns stride len) ↔ NoBandRoom columns n stride len
room_for_lem columns n stride len h = go (leb (packed_length columns) stride) refl
  where
    go : (t : Bool) → leb (packed_length columns) stride ≡ t → NoRoom n (cond t (len / stride) 0) ↔ NoBandRoom columns n stride len
    go true e = ((λ l. inr l), λ l. elim l [ inl k ↦ absurd (omega (arith, k, leb-true (packed_length columns) stride e)) | inr k ↦ k ])
    go false e = ((λ l. inl (leb-false (packed_length columns) stride e)), λ l. h)

-- ---- the whole table
-- a line of which the words are others, and the lines after it, which count where it does not apply
same_lines : {n : ℕ} {A B : Type 0} {R S : ℕ → Type 0} → A ↔ B → (¬ A → (k : ℕ) → R k ↔ S k) → (k : ℕ) → (n when A else R) k ↔ (n when B else S) k
same_lines {A = A} e f k = (
  (λ s. elim s [ inl a ↦ inl (e.0 a.0, a.1) | inr r ↦ inr ((λ b. r.0 (e.1 b)), (f r.0 k).0 r.1) ]),
  λ s. elim s [ inl b ↦ inl (e.1 b.0, b.1) | inr r ↦ (let none : ¬ A = λ a. r.0 (e.0 a) in inr (none, (f none k).1 r.1)) ],
)

itself : {A : Type 0} → A ↔ A
itself = ((λ a. a), λ a. a)

-- a band that 5 is not given for has a row
some_row : (rows first n : ℕ) → ¬ BadRow rows (top_row rows first n) → 1 ≤ n
some_row rows first n h = elim (dec_lt 0 n) [ yes l ↦ l | no l ↦ absurd (h ((top_row_lem rows first n).1 (inr (inl (omega arith))))) ]

lines : (pen : ℕ) (NoPen Bad Raster Coordinate : Type 0) (columns rows first n stride len : ℕ) (k : ℕ) →
    (pen when NoPen else 2 when Bad else 4 when Raster else 5 when BadRow rows (top_row rows first n) else 3 when Coordinate else 7 when NoRoom n (room_for columns stride len) else done) k
    ↔ (pen when NoPen else 2 when Bad else 4 when Raster else 5 when BadBand rows first n else 3 when Coordinate else 7 when NoBandRoom columns n stride len else done) k
lines pen NoPen Bad Raster Coordinate columns rows first n stride len =
    same_lines itself (λ _. same_lines itself (λ _. same_lines itself (λ _. same_lines (top_row_lem rows first n) (λ good.
    same_lines itself (λ _. same_lines (room_for_lem columns n stride len (some_row rows first n good)) (λ _ _. itself))))))

pub refuses_band : {pen : ℕ} {NoPen Bad : Type 0} {path : List ℤ} {columns rows first n stride : ℕ} {before : List ℕ} {r : Result ℕ} →
    Refuses pen NoPen Bad path columns rows (top_row rows first n) n (room_for columns stride (length before)) before r →
    RefusesBand pen NoPen Bad path columns rows first n stride before r
refuses_band {pen} {NoPen} {Bad} {path} {columns} {rows} {first} {n} {stride} {before} h = record {
  exactly = λ k.
      let same = lines pen NoPen Bad (BadRaster columns rows) (BadCoordinate path) columns rows first n stride (length before) k in
      ((λ e. same.0 ((h.exactly k).0 e)), λ e. (h.exactly k).1 (same.1 e));
  first_bad = h.first;
  nowhere = h.nowhere;
  none = h.none;
  kept = h.kept;
}
