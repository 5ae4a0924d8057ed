-- A text is read as a header exactly where it starts with one: of the two numbers that stand in a header, each is read again (`columns_read`, `rows_read`), since
-- its digits are five at most and another character stands behind them.
use Prim.Native.Nat.{ℕ, zero, suc, ◌+◌, ◌-◌, ◌≤◌, ◌<◌}
use native.Mathlib.Omega.{arith}
use mathlib.Core.Path.{◌≡◌, refl, sym, ap, ap₂, ◌∙◌}
use mathlib.Core.Logic.{◌↔◌}
use mathlib.Core.Bool.{Bool, true, false, ◌&&◌}
use mathlib.Core.List.{List, [], ◌∷◌, ◌++◌, append_assoc}
use lib.ListN.{length, get_or, take, drop, length-append, take-append-drop}
use lib.Seq.{drop_at, take-append-add}
use Rattle.integers.proofs.Tests.{and_both, and_true}
use Rattle.limits.specs.Sizes.{is_size}
use Rattle.limits.specs.Exactly.{BadRaster}
use Rattle.limits.specs.Refusal.{raster, unless}
use Rattle.limits.proofs.Sizes.{within_iff}
use Rattle.limits.proofs.Verdicts.{passed, not_passed, unless_true}
use Rattle.limits.proofs.Exactly.{Says, passes, refuses}
use Rattle.checks.proofs.Exactly.{raster_says}
use Rattle.text.specs.Decimal.{decimal}
use Rattle.text.specs.Theorems.{reads_as}
use Rattle.text.proofs.Decimal.{size_few}
use Rattle.text.proofs.Theorems.{decimal_reads}
use Rattle.pbm.specs.declared.read.Header.{Header}
use Rattle.pbm.specs.declared.read.Header.TheVariants.{Sound, Unsound}
use Rattle.pbm.specs.declared.read.Number.{Number}
use Rattle.pbm.specs.Pbm.{header}
use Rattle.pbm.specs.Reading.{is_digit, leading, size_at, columns_in, rows_in, starts_with, header_of, header_in}
use Rattle.pbm.specs.Theorems.{Headed, HeaderSound, HeaderShort}
use Rattle.pbm.proofs.Pieces.{header_few}
use Rattle.pbm.proofs.Reading.{starts_here, starts_rest}
use Rattle.pbm.proofs.Sound.{no_sizes, other_start, header_there}

-- ---- the limits of the sizes, as a test and in the words of document 01's table
pub raster_iff : (columns rows : ℕ) → ((is_size columns && is_size rows) ≡ true) ↔ ¬ BadRaster columns rows
raster_iff columns rows = go (raster_says columns rows)
  where
    t : Bool
    t = is_size columns && is_size rows

    go : Says (unless t raster) 4 (BadRaster columns rows) → (t ≡ true) ↔ ¬ BadRaster columns rows
    go (passes e h) = ((λ _. h), λ _. unless_true t raster e)
    go (refuses place e b) = ((λ f. not_passed (sym e ∙ sym (passed raster f))), λ n. absurd (n b))

-- ---- the digits before another character are all that lead
all_lead : (k : ℕ) (d : List ℕ) (x : ℕ) (t : List ℕ) → ((i : ℕ) → i < length d → (48 ≤ get_or d i 0) × (get_or d i 0 ≤ 57)) → length d ≤ k → is_digit x ≡ false → leading k (d ++ x ∷ t) ≡ d
unfolding leading
all_lead zero [] x t a l e = refl
all_lead (suc k) [] x t a l e = rw (e, leading)
all_lead zero (y ∷ d) x t a l e = absurd (omega arith)
all_lead (suc k) (y ∷ d) x t a l e =
    rw ((within_iff y 48 57).1 (a 0 (omega arith)), leading) (ap (λ (m : List ℕ). y ∷ m) (all_lead k d x t (λ i h. a (suc i) (omega arith)) (omega arith) e))

decimal_leads : (n x : ℕ) (t : List ℕ) → is_size n ≡ true → is_digit x ≡ false → leading 5 (decimal n ++ x ∷ t) ≡ decimal n
decimal_leads n x t h e = all_lead 5 (decimal n) x t (decimal_reads n).digits (size_few n h) e

-- ---- the two numbers of a header
module _ (columns rows : ℕ) (rest : List ℕ) (c : is_size columns ≡ true) (r : is_size rows ≡ true) where
  abbrev whole : List ℕ
  whole = header columns rows ++ rest

  columns_there : drop 3 whole ≡ decimal columns ++ 32 ∷ (decimal rows ++ 10 ∷ rest)
  columns_there = simp append_assoc

  rows_there : drop (3 + length (decimal columns) + 1) whole ≡ decimal rows ++ 10 ∷ rest
  rows_there =
      let p : List ℕ = (80 ∷ 52 ∷ 10 ∷ []) ++ decimal columns ++ (32 ∷ []) in
      let l : length p ≡ 3 + length (decimal columns) + 1 = simp length-append (omega arith) in
      ap (drop (3 + length (decimal columns) + 1)) (simp append_assoc) ∙ drop_at p (decimal rows ++ 10 ∷ rest) (3 + length (decimal columns) + 1) l

  columns_read : columns_in whole ≡ record { value = columns; end = 3 + length (decimal columns) }
  columns_read =
      ap (λ (l : List ℕ). record { value = reads_as l; end = 3 + length l }) (ap (leading 5) columns_there ∙ decimal_leads columns 32 (decimal rows ++ 10 ∷ rest) c refl)
      ∙ ap (λ (n : ℕ). record { value = n; end = 3 + length (decimal columns) }) (decimal_reads columns).value

  rows_read : (rows_in whole).value ≡ rows
  rows_read =
      ap (λ (n : Number). (size_at (n.end + 1) whole).value) columns_read
      ∙ ap reads_as (ap (leading 5) rows_there ∙ decimal_leads rows 10 rest r refl)
      ∙ (decimal_reads rows).value

  header_read : header_in whole ≡ Sound columns rows (length (header columns rows))
  header_read =
      ap₂ (λ (n m : ℕ). header_of n m whole) (ap (λ (n : Number). n.value) columns_read) rows_read
      ∙ header_there columns rows whole (and_true (is_size columns) (is_size rows) c r) (starts_here (header columns rows) rest)

-- ---- a header that is found stands there
found : (c r : ℕ) (s : List ℕ) (columns rows n : ℕ) → header_of c r s ≡ Sound columns rows n → Headed s columns rows n
found c r s columns rows n e = go (is_size c && is_size r) refl (starts_with (header c r) s) refl
  where
    never : Unsound ≡ Sound columns rows n → ⊥
    never f = let z : ◌≡◌ {A = ℕ} 0 1 = cc in omega arith

    go : (t : Bool) → (is_size c && is_size r) ≡ t → (u : Bool) → starts_with (header c r) s ≡ u → Headed s columns rows n
    go false p u q = absurd (never (sym (no_sizes c r s p) ∙ e))
    go true p false q = absurd (never (sym (other_start c r s q) ∙ e))
    go true p true q =
        let f = sym e ∙ header_there c r s p q in
        let fc : columns ≡ c = cc in
        let fr : rows ≡ r = cc in
        let fn : n ≡ length (header c r) = cc in
        rw (fc, fr, fn) (record { rest = drop (length (header c r)) s; text = starts_rest (header c r) s q; sizes = (raster_iff c r).0 p; long = refl })

pub header_sound : HeaderSound
header_sound s columns rows n = (found (columns_in s).value (rows_in s).value s columns rows n, there)
  where
    there : Headed s columns rows n → header_in s ≡ Sound columns rows n
    there h =
        let b = and_both (is_size columns) (is_size rows) ((raster_iff columns rows).1 h.sizes) in
        ap header_in h.text ∙ header_read columns rows h.rest b.0 b.1 ∙ ap (Sound columns rows) (sym h.long)

-- ---- 15 bytes are enough
headed_few : {s : List ℕ} {columns rows n : ℕ} → Headed s columns rows n → Headed (take 15 s) columns rows n
headed_few {s} {columns} {rows} h =
    let l : List ℕ = header columns rows in
    let b = and_both (is_size columns) (is_size rows) ((raster_iff columns rows).1 h.sizes) in
    let k : 15 ≡ length l + (15 - length l) = omega (arith, header_few columns rows b.0 b.1) in
    record {
      rest = take (15 - length l) h.rest;
      text = ap₂ (λ (n : ℕ) (t : List ℕ). take n t) k h.text ∙ take-append-add l h.rest (15 - length l);
      sizes = h.sizes;
      long = h.long;
    }

headed_more : {s : List ℕ} {columns rows n : ℕ} → Headed (take 15 s) columns rows n → Headed s columns rows n
headed_more {s} {columns} {rows} h = record {
  rest = h.rest ++ drop 15 s;
  text = sym (take-append-drop 15 s) ∙ ap (λ (t : List ℕ). t ++ drop 15 s) h.text ∙ append_assoc (header columns rows) h.rest (drop 15 s);
  sizes = h.sizes;
  long = h.long;
}

-- by what is read of the whole text, and where that is nothing, of its first 15 bytes
pub header_short : HeaderShort
header_short s = go (header_in s) refl
  where
    none : (h : Header) → header_in (take 15 s) ≡ h → header_in s ≡ Unsound → header_in (take 15 s) ≡ Unsound
    none (Sound columns rows n) e f =
        let g = (header_sound s columns rows n).1 (headed_more ((header_sound (take 15 s) columns rows n).0 e)) in
        absurd (let z : ◌≡◌ {A = ℕ} 0 1 = cc in omega arith)
    none Unsound e f = e

    go : (h : Header) → header_in s ≡ h → header_in (take 15 s) ≡ header_in s
    go (Sound columns rows n) e = (header_sound (take 15 s) columns rows n).1 (headed_few ((header_sound s columns rows n).0 e)) ∙ sym e
    go Unsound e = none (header_in (take 15 s)) refl e ∙ sym e
