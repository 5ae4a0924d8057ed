-- No refusal exactly for two films of one size: where none applies, both headers are there and say the same, and no byte is missing or too many.
use Prim.Native.Nat.{ℕ, ◌+◌, ◌*◌, ◌<◌}
use native.Mathlib.Omega.{arith}
use mathlib.Core.Path.{◌≡◌, refl}
use mathlib.Core.Logic.{inr, ◌↔◌}
use mathlib.Core.Bool.{Bool, true, false, ◌&&◌}
use mathlib.Core.List.{List}
use lib.Dec.{eqb}
use lib.ListN.{length}
use Rattle.limits.proofs.Exactly.{zero_later}
use Rattle.bits.specs.Bits.{packed_length}
use Rattle.pbm.specs.declared.read.Header.{Header}
use Rattle.pbm.specs.declared.read.Header.TheVariants.{Sound, Unsound}
use Rattle.pbm.specs.Reading.{header_in}
use Rattle.pbm.specs.Theorems.{Headed}
use Rattle.pbm.proofs.Headed.{header_sound}
use Rattle.compare.specs.Theorems.{Film, Films, BadHeader, UnequalHeaders, ShortData, BytesAfter, TakenExactly}
use Rattle.compare.proofs.Heads.{unsound_bad, one_length, sizes_agree, sizes_differ, same_header, heads_unequal, heads_equal}
use Rattle.compare.proofs.Exactly.{AllRefusals, refused_exactly}

-- ---- the length of a file
-- a file that is neither short nor too long is a film
neither : {f : List ℕ} {columns rows start : ℕ} → Headed f columns rows start → ¬ ShortData f → ¬ BytesAfter f → Film f columns rows
neither {f} {columns} {rows} {start} h short after =
    let low : ¬ (length f < start + rows * packed_length columns) = λ l. short (columns, (rows, (start, (h, l)))) in
    let high : ¬ (start + rows * packed_length columns < length f) = λ l. after (columns, (rows, (start, (h, l)))) in
    record { start = start; head = h; size = omega (arith, low, high) }

-- and a film is not short, its header being the only one
not_short : {f : List ℕ} {columns rows : ℕ} → Film f columns rows → ¬ ShortData f
not_short film s = omega (arith, film.size, one_length film.head s.1.1.1.0, s.1.1.1.1)

-- nor is it too long
not_after : {f : List ℕ} {columns rows : ℕ} → Film f columns rows → ¬ BytesAfter f
not_after film s = omega (arith, film.size, one_length film.head s.1.1.1.0, s.1.1.1.1)

-- ---- the seven refusals, none of which applies
record Clear (f g : List ℕ) : Type 0 where
  header₁ : ¬ BadHeader f
  header₂ : ¬ BadHeader g
  sizes : ¬ UnequalHeaders f g
  short₁ : ¬ ShortData f
  short₂ : ¬ ShortData g
  after₁ : ¬ BytesAfter f
  after₂ : ¬ BytesAfter g

module _ {f g : List ℕ} where
  -- so it is where the table says 0
  clear_iff : AllRefusals f g 0 ↔ Clear f g
  clear_iff = (there, λ c. inr (c.header₁, inr (c.header₂, inr (c.sizes, inr (c.short₁, inr (c.short₂, inr (c.after₁, inr (c.after₂, refl))))))))
    where
      there : AllRefusals f g 0 → Clear f g
      there s =
          let r₁ = zero_later s in
          let r₂ = zero_later r₁.1 in
          let r₃ = zero_later r₂.1 in
          let r₄ = zero_later r₃.1 in
          let r₅ = zero_later r₄.1 in
          let r₆ = zero_later r₅.1 in
          let r₇ = zero_later r₆.1 in
          record { header₁ = r₁.0; header₂ = r₂.0; sizes = r₃.0; short₁ = r₄.0; short₂ = r₅.0; after₁ = r₆.0; after₂ = r₇.0 }

  -- and where both are films of one size
  films_clear : {columns rows : ℕ} → Films f g columns rows → Clear f g
  films_clear {columns} {rows} films =
      let h = films.first.head in
      let k = films.second.head in record {
        header₁ = λ b. b columns rows _ h;
        header₂ = λ b. b columns rows _ k;
        sizes = heads_equal h k (refl, refl);
        short₁ = not_short films.first;
        short₂ = not_short films.second;
        after₁ = not_after films.first;
        after₂ = not_after films.second;
      }

  -- where none applies, two headers have one size, and each file ends with its film
  one_size_films : {c r n d s m : ℕ} → Headed f c r n → Headed g d s m → Clear f g → Films f g c r
  one_size_films {c} {r} {n} {d} {s} {m} h k clear = go (eqb c d && eqb r s) refl
    where
      go : (t : Bool) → (eqb c d && eqb r s) ≡ t → Films f g c r
      go true e = record { first = neither h clear.short₁ clear.after₁; second = neither (same_header h k (sizes_agree c r d s e)) clear.short₂ clear.after₂ }
      go false e = absurd (clear.sizes (heads_unequal h k (sizes_differ c r d s e)))

  -- and each file has a header
  clear_films : Clear f g → (columns : ℕ) × ((rows : ℕ) × Films f g columns rows)
  clear_films clear = go (header_in f) refl (header_in g) refl
    where
      go : (h : Header) → header_in f ≡ h → (k : Header) → header_in g ≡ k → (columns : ℕ) × ((rows : ℕ) × Films f g columns rows)
      go Unsound e k e' = absurd (clear.header₁ (unsound_bad e))
      go (Sound c r n) e Unsound e' = absurd (clear.header₂ (unsound_bad e'))
      go (Sound c r n) e (Sound d s m) e' = (c, (r, one_size_films ((header_sound f c r n).0 e) ((header_sound g d s m).0 e') clear))

pub taken_exactly : TakenExactly
taken_exactly f g =
    let x = refused_exactly f g 0 in
    ((λ e. clear_films (clear_iff.0 (x.0 e))), λ t. x.1 (clear_iff.1 (films_clear t.1.1)))
