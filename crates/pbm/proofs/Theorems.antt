-- The claims of specs/Theorems.antt, each under its name there in small letters.
use Prim.Native.Nat.{ℕ, zero, suc, ◌+◌, ◌-◌, ◌*◌, ◌<◌}
use native.Mathlib.Nat.{suc-mul}
use native.Mathlib.Omega.{arith}
use mathlib.Core.Path.{◌≡◌, refl, sym, ap, ◌∙◌, subst}
use mathlib.Core.Bool.{Bool, true, false}
use mathlib.Core.List.{List, [], ◌∷◌, ◌++◌, append_assoc}
use lib.Dec.{ltb}
use lib.ListN.{length, get_or, drop, length-append, get_or-append}
use lib.Seq.{slice, take_at, drop_at, get_or_at, get_or-append-add}
use borrow.Author.Tests.{ltb-true, ltb-false}
use Rattle.text.specs.Decimal.{decimal}
use Rattle.text.specs.Theorems.{Reads}
use Rattle.text.proofs.Theorems.{decimal_reads}
use Rattle.pbm.specs.Pbm.{headed, top_first}
use Rattle.pbm.specs.Theorems.{HeaderReads, TopFirst}
use Rattle.pbm.proofs.Pieces.{header_length}

-- ---- the header
-- what stands between two others
between : (a b c : List ℕ) (m n : ℕ) → length a ≡ m → m + length b ≡ n → slice m n (a ++ b ++ c) ≡ b
between a b c m n h k = ap (drop m) (take_at (a ++ b) c n (omega (arith, length-append a b))) ∙ drop_at a b m h

abbrev letters : List ℕ
letters = 80 ∷ 52 ∷ 10 ∷ []

-- the parts of a header with these digits, by their places
module _ (columns rows : List ℕ) where
  before_space : length (letters ++ columns) ≡ 3 + length columns
  before_space = length-append letters columns

  before_rows : length (letters ++ columns ++ (32 ∷ [])) ≡ 3 + length columns + 1
  before_rows = omega (arith, length-append (letters ++ columns) (32 ∷ []), before_space)

  before_end : length (letters ++ columns ++ (32 ∷ []) ++ rows) ≡ 3 + length columns + 1 + length rows
  before_end = omega (arith, length-append (letters ++ columns ++ (32 ∷ [])) rows, before_rows)

  columns_here : slice 3 (3 + length columns) (headed columns rows) ≡ columns
  columns_here = simp append_assoc (between letters columns (32 ∷ rows ++ (10 ∷ [])) 3 (3 + length columns) refl refl)

  space_here : get_or (headed columns rows) (3 + length columns) 0 ≡ 32
  space_here = simp append_assoc (get_or_at (letters ++ columns) 32 (rows ++ (10 ∷ [])) 0 (3 + length columns) before_space)

  rows_here : slice (3 + length columns + 1) (3 + length columns + 1 + length rows) (headed columns rows) ≡ rows
  rows_here = between (letters ++ columns ++ (32 ∷ [])) rows (10 ∷ []) (3 + length columns + 1) (3 + length columns + 1 + length rows) before_rows refl

  end_here : get_or (headed columns rows) (3 + length columns + 1 + length rows) 0 ≡ 10
  end_here = get_or_at (letters ++ columns ++ (32 ∷ []) ++ rows) 10 [] 0 (3 + length columns + 1 + length rows) before_end

pub header_reads : HeaderReads
header_reads columns rows =
    let c = decimal columns in
    let r = decimal rows in
    record {
      wide = length c;
      high = length r;
      size = omega (arith, header_length c r);
      letters = refl;
      first = subst (λ (l : List ℕ). Reads l columns) (sym (columns_here c r)) (decimal_reads columns);
      space = space_here c r;
      second = subst (λ (l : List ℕ). Reads l rows) (sym (rows_here c r)) (decimal_reads rows);
      newline = end_here c r;
    }

-- ---- the rows
module _ (width : ℕ) (row : ℕ → List ℕ) where
  rows_long : (rows : ℕ) → ((j : ℕ) → j < rows → length (row j) ≡ width) → length (top_first rows row) ≡ rows * width
  unfolding top_first
  rows_long zero h = omega arith
  rows_long (suc n) h =
      let l : n < suc n = omega arith in
      omega (arith, length-append (row n) (top_first n row), h n l, rows_long n (λ j k. h j (omega arith)), suc-mul n width)

  -- the row on top, and a row below it, which is one row nearer to the top among those below
  on_top : (n k : ℕ) → length (row n) ≡ width → k < width → get_or (top_first (suc n) row) ((suc n - 1 - n) * width + k) 0 ≡ get_or (row n) k 0
  unfolding top_first
  on_top n k e h =
      let none : suc n - 1 - n ≡ 0 = omega arith in
      let p : (suc n - 1 - n) * width + k ≡ k = rw none (omega arith) in
      rw p (get_or-append (row n) (top_first n row) 0 k (omega arith))

  under : (n j k : ℕ) → length (row n) ≡ width → j < n → get_or (top_first (suc n) row) ((suc n - 1 - j) * width + k) 0 ≡ get_or (top_first n row) ((n - 1 - j) * width + k) 0
  unfolding top_first
  under n j k e h =
      let r : suc n - 1 - j ≡ suc (n - 1 - j) = omega arith in
      let p : (suc n - 1 - j) * width + k ≡ length (row n) + ((n - 1 - j) * width + k) = rw r (omega (arith, suc-mul (n - 1 - j) width)) in
      rw p (get_or-append-add (row n) (top_first n row) ((n - 1 - j) * width + k) 0)

  row_bytes : (rows : ℕ) → ((j : ℕ) → j < rows → length (row j) ≡ width) → (j k : ℕ) → j < rows → k < width →
      get_or (top_first rows row) ((rows - 1 - j) * width + k) 0 ≡ get_or (row j) k 0
  row_bytes zero h j k hj hk = absurd (omega arith)
  row_bytes (suc n) h j k hj hk = go (ltb j n) refl (row_bytes n (λ i m. h i (omega arith)) j k)
    where
      last : length (row n) ≡ width
      last = h n (omega arith)

      go : (t : Bool) → ltb j n ≡ t → (j < n → k < width → get_or (top_first n row) ((n - 1 - j) * width + k) 0 ≡ get_or (row j) k 0) →
          get_or (top_first (suc n) row) ((suc n - 1 - j) * width + k) 0 ≡ get_or (row j) k 0
      go true e r = let l = ltb-true j n e in under n j k last l ∙ r l hk
      go false e r =
          let l : n ≡ j = omega (arith, ltb-false j n e) in
          subst (λ (i : ℕ). get_or (top_first (suc n) row) ((suc n - 1 - i) * width + k) 0 ≡ get_or (row i) k 0) l (on_top n k last hk)

pub top_first_lem : TopFirst
top_first_lem rows width row h = record { size = rows_long width row rows h; byte = row_bytes width row rows h }
