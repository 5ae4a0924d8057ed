-- Each bit of a band, by its place: the place in the bytes, the row there, the bit of the packed row, and the stroke that makes it black.
use Prim.Native.Nat.{ℕ, zero, suc, ◌+◌, ◌-◌, ◌*◌, ◌/◌, ◌%◌, ◌^◌, ◌≤◌, ◌<◌}
use native.Mathlib.Omega.{arith}
use mathlib.Core.Path.{◌≡◌, refl, sym, ap, ap₂, ◌∙◌, subst}
use mathlib.Core.Logic.{◌↔◌, ◌⊎◌, inl, inr}
use mathlib.Core.Bool.{Bool, true, false, cond, ◌&&◌, ◌||◌}
use mathlib.Core.List.{List, [], ◌∷◌, ◌++◌}
use borrow.Author.Tests.{ltb-true, ltb-false, lt-ltb}
use lib.Dec.{ltb}
use lib.ListN.{length, get_or, take, drop}
use lib.Seq.{take_at, drop_at}
use lib.IntN.{pos}
use Rattle.integers.proofs.Tests.{clash}
use Rattle.pen.specs.Polygon.{pen}
use Rattle.pen.proofs.Theorems.{pen_is_pen}
use Rattle.stroke.specs.Runs.{black_at}
use Rattle.stroke.specs.Sweep.{centre, path_points}
use Rattle.stroke.specs.Black.{BlackPath}
use Rattle.stroke.proofs.Path.{black_path}
use Rattle.bits.specs.Bits.{packed, packed_length}
use Rattle.bits.proofs.Tests.{one_of, first_of, second_of, bit_set}
use Rattle.bits.proofs.Bytes.{packed_length_lem, packed_bit, packed_small}
use Rattle.pbm.specs.Pbm.{top_first}
use Rattle.pbm.proofs.Theorems.{top_first_lem}
use Rattle.drawing.specs.Strokes.{Drawing, path_of}
use Rattle.drawing.specs.Film.{row_of, band_of, band_put}
use Rattle.drawing.specs.Theorems.{RowWidth, setting_of, DrawableFilm, StrokeBlack, BitBlack, FilmRow, BandBits, BandBit}
use Rattle.drawing.proofs.Put.{band_long}
use Rattle.drawing.proofs.Packed.{any_below, row_packed}
use Rattle.drawing.proofs.Drawable.{band_gave, band_taken}

-- ---- bytes
-- every number of the list is a byte, and so is what is read past its end
abbrev Small : List ℕ → Type 0
Small l = (n : ℕ) → get_or l n 0 < 256

small_append : (a b : List ℕ) → Small a → Small b → Small (a ++ b)
small_append [] b p q n = q n
small_append (x ∷ a) b p q zero = p 0
small_append (x ∷ a) b p q (suc n) = small_append a b (λ m. p (suc m)) q n

small_rows : (n : ℕ) (row : ℕ → List ℕ) → ((j : ℕ) → j < n → Small (row j)) → Small (top_first n row)
unfolding top_first
small_rows zero row h k = omega arith
small_rows (suc n) row h k = small_append (row n) (top_first n row) (h n (omega arith)) (small_rows n row (λ j l. h j (omega arith))) k

-- ---- some stroke
-- the test finds a number exactly when there is one
found : (f : ℕ → Bool) (n : ℕ) → any_below f n ≡ true → (k : ℕ) × (k < n) × (f k ≡ true)
unfolding any_below
found f zero h = absurd (clash h refl)
found f (suc n) h = go (one_of (any_below f n) (f n) h) (found f n)
  where
    go : (any_below f n ≡ true) ⊎ (f n ≡ true) → (any_below f n ≡ true → (k : ℕ) × (k < n) × (f k ≡ true)) → (k : ℕ) × (k < suc n) × (f k ≡ true)
    go (inl e) r = let w = r e in (w.0, omega (arith, w.1), w.2)
    go (inr e) r = (n, omega arith, e)

there : (f : ℕ → Bool) (n k : ℕ) → k < n → f k ≡ true → any_below f n ≡ true
unfolding any_below
there f zero k h e = absurd (omega arith)
there f (suc n) k h e = go (ltb k n) refl (there f n k)
  where
    go : (t : Bool) → ltb k n ≡ t → (k < n → f k ≡ true → any_below f n ≡ true) → (any_below f n || f n) ≡ true
    go true q r = first_of (any_below f n) (f n) (r (ltb-true k n q) e)
    go false q r = let l : k ≡ n = omega (arith, ltb-false k n q) in second_of (any_below f n) (f n) (subst (λ (i : ℕ). f i ≡ true) l e)

-- ---- a drawing whose strokes all pass
module _ (d : Drawing) (columns rows : ℕ) (s : DrawableFilm d columns rows) where
  -- the row's test: some stroke blackens the column
  abbrev black : ℕ → ℕ → Bool
  black j x = any_below (λ k. black_at (pen (setting_of d k)) (path_points (path_of d.starts d.entries k)) (pos j) (pos x)) (length d.apertures)

  row_is : (j : ℕ) → j < rows → row_of d columns rows (packed_length columns) j ≡ packed (black j) columns
  row_is j h = row_packed d columns rows s j h

  stroke_black : (i j : ℕ) → (black j i ≡ true) ↔ StrokeBlack d i j
  stroke_black i j = (
    (λ e. let w = found _ (length d.apertures) e in (w.0, w.1, (by w.0 w.1).0 w.2)),
    (λ w. there _ (length d.apertures) w.0 w.1 ((by w.0 w.1).1 w.2)),
  )
    where
      by : (k : ℕ) → k < length d.apertures →
          (black_at (pen (setting_of d k)) (path_points (path_of d.starts d.entries k)) (pos j) (pos i) ≡ true)
          ↔ BlackPath (pen (setting_of d k)) (path_points (path_of d.starts d.entries k)) (centre (pos i) (pos j))
      by k l = black_path (pen (setting_of d k)) _ _ (pen_is_pen (setting_of d k) (s.holds k l).taken) (path_points (path_of d.starts d.entries k)) (pos i) (pos j)

  -- the bit of column i, wherever the row's bytes stand
  bit_black : (bytes : List ℕ) (at i j : ℕ) → get_or bytes (at + i / 8) 0 ≡ get_or (packed (black j) columns) (i / 8) 0 → BitBlack d columns bytes at i j
  bit_black bytes at i j h =
      let same : 8 * (i / 8) + i % 8 ≡ i = omega arith in
      let e : get_or bytes (at + i / 8) 0 / 2 ^ (7 - i % 8) % 2 ≡ cond (ltb i columns && black j i) 1 0 =
      ap (λ (b : ℕ). b / 2 ^ (7 - i % 8) % 2) h
      ∙ packed_bit (black j) columns (i / 8) (i % 8) (omega arith)
      ∙ ap (λ (x : ℕ). cond (ltb x columns && black j x) 1 0) same in
      let q = stroke_black i j in (
        (λ x. let y = (bit_set (ltb i columns) (black j i)).0 (sym e ∙ x) in (ltb-true i columns y.0, q.0 y.1)),
        λ x. e ∙ (bit_set (ltb i columns) (black j i)).1 (lt-ltb i columns x.0, q.1 x.1),
      )

  row_bit : (i j : ℕ) → j < rows → BitBlack d columns (row_of d columns rows (packed_length columns) j) 0 i j
  row_bit i j h =
      let at : 0 + i / 8 ≡ i / 8 = omega arith in
      bit_black (row_of d columns rows (packed_length columns) j) 0 i j (ap₂ (λ (l : List ℕ) (n : ℕ). get_or l n 0) (row_is j h) at)

  -- some of its rows: their bytes stand where TopFirst says
  module _ (first n : ℕ) (inside : first + n ≤ rows) where
    abbrev here : ℕ → List ℕ
    here j = row_of d columns rows (packed_length columns) (first + j)

    here_is : (j : ℕ) → j < n → here j ≡ packed (black (first + j)) columns
    here_is j h = row_is (first + j) (omega arith)

    band_byte : (j k : ℕ) → j < n → k < packed_length columns →
        get_or (band_of d columns rows first n) ((n - 1 - j) * packed_length columns + k) 0 ≡ get_or (packed (black (first + j)) columns) k 0
    band_byte j k h l =
        (top_first_lem n (packed_length columns) here (λ i m. ap length (here_is i m) ∙ packed_length_lem (black (first + i)) columns)).byte j k h l
        ∙ ap (λ (b : List ℕ). get_or b k 0) (here_is j h)

    band_bits : BandBits d columns first n (packed_length columns) (band_of d columns rows first n)
    band_bits = record {
      size = band_long d columns rows first n;
      small = λ m h. small_rows n here (λ j l k. rw (here_is j l) (packed_small (black (first + j)) columns k)) m;
      bit = λ i j h l. bit_black (band_of d columns rows first n) ((n - 1 - j) * packed_length columns) i (first + j) (band_byte j (i / 8) l (omega arith));
    }

-- the least number of bytes that hold the columns is the definition's
width_is : {columns width : ℕ} → RowWidth columns width → packed_length columns ≡ width
width_is w = omega (arith, w.enough, w.least)

pub film_row_lem : FilmRow
film_row_lem d columns rows first n width b s i j h l =
    let drawable = (band_taken d columns rows first n width b s).drawable in
    subst (λ (w : ℕ). BitBlack d columns (row_of d columns rows w j) 0 i j) (width_is s.wide) (row_bit d columns rows drawable i j l)

-- ---- the buffer at exit
pub band_bit : BandBit
band_bit d columns rows first n width b s =
    let g = band_gave d columns rows first n width b s in
    let r = band_put d columns rows first n b in
    let f = band_of d columns rows first n in
    let same = width_is s.wide in
    let taken = band_taken d columns rows first n width b s in
    let bits = band_bits d columns rows taken.drawable first n taken.inside in
    let front : f ≡ take r.answer.count r.list = sym (ap₂ (λ (k : ℕ) (l : List ℕ). take k l) g.count g.left ∙ take_at f (drop (length f) b) (length f) refl) in
    record {
      band = subst (BandBits d columns first n width) front (subst (λ (w : ℕ). BandBits d columns first n w f) same bits);
      count = g.count ∙ band_long d columns rows first n ∙ ap (λ (w : ℕ). n * w) same;
      rest = ap₂ (λ (k : ℕ) (l : List ℕ). drop k l) g.count g.left ∙ drop_at f (drop (length f) b) (length f) refl ∙ ap (λ (k : ℕ). drop k b) (sym g.count);
    }
