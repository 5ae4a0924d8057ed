-- What the answers of row calls hold together. Given for each of n rows the longest runs of its black columns, with nothing cut off, the runs hold as many pixels as there
-- are black ones in those rows; and a column is covered by as many rows' runs as it has black pixels. Both for any property of pixels: no shape is used, and no sum of floors.
use mathlib.Core.Path.{◌≡◌, refl, sym, ap, ap₂, subst}
use mathlib.Core.Logic.{◌↔◌, ◌⊎◌, inl, inr}
use mathlib.Core.List.Memᴰ.{cases_cons as cases}
use mathlib.Core.List.Memᴰ.{head}
use mathlib.Core.List.Memᴰ.{not-nil}
use mathlib.Core.List.Memᴰ.{tail}
use mathlib.Core.List.{List, [], ◌∷◌, ◌++◌}
use mathlib.Core.List.Memᴰ.{append_cases}
use mathlib.Core.List.Memᴰ.{append_left}
use mathlib.Core.List.Memᴰ.{append_right}
use Prim.Native.Nat.{ℕ, zero, suc, ◌+◌, ◌-◌, ◌≤◌, ◌<◌}
use native.Mathlib.Omega.{arith}
use native.Mathlib.Decide.{dec_lt}
use lib.Dec.{ltb→lt}
use lib.ListN.{length-append}
use lib.IntN.{ℤ, pos, negsuc, nat_abs, ◌+ℤ◌}
use Rattle.integers.specs.Orders.{◌≼◌, ◌≺◌}
use Rattle.integers.specs.Count.{◌∈◌, NoDup, Number}
use Rattle.integers.proofs.Ring.{ring, reify, here, ◌⊢◌}
use Rattle.integers.proofs.Order.{le_or_lt}
use Rattle.integers.proofs.Count.{number_iff, number_map, number_unique}
use Rattle.stroke.specs.Runs.{Run, Apart, Covers, Longest, holds}
use Rattle.stroke.specs.Weight.{Pixel, InRows}
use Rattle.stroke.proofs.Apart.{apart_from}

-- ---- two properties that exclude one another
once_both : {A : Type 0} (l k : List A) → NoDup l → NoDup k → ((x : A) → x ∈ l → x ∈ k → ⊥) → NoDup (l ++ k)
once_both [] k d e h = e
once_both (x ∷ l) k d e h = ((λ m. elim (append_cases l m) [ inl i ↦ d.0 i | inr i ↦ h x (head refl) i ]), once_both l k d.1 e (λ y i. h y (tail i)))

pub number_or : {A : Type 0} (P Q R : A → Type 0) {m n : ℕ} → ((x : A) → P x → Q x → ⊥) → ((x : A) → R x ↔ (P x ⊎ Q x)) → Number P m → Number Q n → Number R (m + n)
number_or P Q R h e M N = record {
  list = M.list ++ N.list;
  once = once_both M.list N.list M.once N.once (λ x i j. h x (M.sound x i) (N.sound x j));
  size = omega (arith, length-append M.list N.list, M.size, N.size);
  sound = λ x m. (e x).1 (elim (append_cases M.list m) [ inl i ↦ inl (M.sound x i) | inr i ↦ inr (N.sound x i) ]);
  whole = λ x r. elim ((e x).0 r) [ inl i ↦ append_left N.list (M.whole x i) | inr i ↦ append_right M.list (N.whole x i) ];
}

number_none : {A : Type 0} (P : A → Type 0) → ((x : A) → P x → ⊥) → Number P 0
number_none P h = record { list = []; once = tt; size = refl; sound = λ x m. absurd (not-nil m); whole = λ x p. absurd (h x p) }

-- ---- the columns that runs cover
-- l, .., l + n - 1
stretch : (l n : ℕ) → Number (λ x. (l ≤ x) × (x < l + n)) n
stretch l zero = number_none _ (λ x c. omega arith)
stretch l (suc n) =
    let N = stretch l n in
    record {
      list = (l + n) ∷ N.list;
      once = ((λ m. let c = N.sound (l + n) m in omega arith), N.once);
      size = ap suc N.size;
      sound = λ x m. elim (cases m) [ inl e ↦ (omega arith, omega arith) | inr k ↦ (let c = N.sound x k in (omega arith, omega arith)) ];
      whole = λ x c. elim (dec_lt x (l + n)) [ yes k ↦ tail (N.whole x (c.0, k)) | no k ↦ head {x = l + n} (omega arith) ];
    }

-- those of the first run, and those of the runs after it, which lie further right
pub runs_number : (lo : ℕ) (rs : List Run) → Apart lo rs → Number (Covers rs) (holds rs)
runs_number lo [] a = number_none _ (λ x c. c)
runs_number lo (r ∷ rs) a =
    number_or (λ x. (r.left ≤ x) × (x ≤ r.right)) (Covers rs) _ (λ x h c. omega (arith, apart_from (r.right + 2) rs x a.2 c)) (λ x. ((λ c. c), λ c. c))
    (number_iff _ _ (λ x. ((λ h. (h.0, omega arith)), λ h. (h.0, omega arith))) (stretch r.left (r.right - r.left + 1)))
    (runs_number (r.right + 2) rs a.2)

-- ---- columns and rows that a raster has
pub pos_abs : (z : ℤ) → pos 0 ≼ z → z ≡ pos (nat_abs z)
pos_abs (pos k) h = refl
pos_abs (negsuc k) h = absurd h.le

below : (z : ℤ) (n : ℕ) → pos 0 ≼ z → z ≺ pos n → nat_abs z < n
below z n h k = ltb→lt (nat_abs z) n (rw (pos_abs z h) at k).lt

-- ---- n rows
-- the total of their runs
unfoldable pub total : (ℕ → List Run) → ℕ → ℕ
total rs zero = 0
total rs (suc n) = total rs n + holds (rs n)

abbrev pub pixel : ℤ → ℤ → Pixel
pixel i j = record { column = i; row = j }

no_row : (j i : ℤ) → (j ≼ i) × (i ≺ j +ℤ pos 0) → ⊥
no_row = ring 2 _ λ ρ. simp (reify, ρ) (omega arith)

old_row : (j i : ℤ) (n : ℕ) → InRows j n i → InRows j (suc n) i
old_row j i n h = h ⊢ here (j ∷ i ∷ []) λ ρ a b. simp (reify, ρ, a, b) (omega arith)

new_row : (j i : ℤ) (n : ℕ) → i ≡ j +ℤ pos n → InRows j (suc n) i
new_row j i n h = h ⊢ here (j ∷ i ∷ []) λ ρ a b. simp (reify, ρ, a, b) (omega arith)

last_row : (j i : ℤ) (n : ℕ) → i ≺ j +ℤ pos (suc n) → j +ℤ pos n ≼ i → i ≡ j +ℤ pos n
last_row j i n h k = h ⊢ k ⊢ here (j ∷ i ∷ []) λ ρ a b. simp (reify, ρ, a, b) (omega arith)

not_old : (j i : ℤ) (n : ℕ) → i ≺ j +ℤ pos n → i ≡ j +ℤ pos n → ⊥
not_old j i n h k = h ⊢ k ⊢ here (j ∷ i ∷ []) λ ρ a b. simp (reify, ρ, a, b) (omega arith)

module _ (columns : ℕ) (black : Pixel → Type 0) where
  -- no black pixel of the row lies beside the raster
  abbrev pub Uncut : ℤ → Type 0
  Uncut j = (i : ℤ) → black (pixel i j) → (pos 0 ≼ i) × (i ≺ pos columns)

  -- the longest runs of the row's black columns
  abbrev pub RowOf : ℤ → List Run → Type 0
  RowOf j rs = Longest (λ x. black (pixel (pos x) j)) columns rs

  abbrev InRow : ℤ → Pixel → Type 0
  InRow j p = (p.row ≡ j) × black p

  -- one row: its black pixels are the columns that its runs cover
  row_number : (j : ℤ) (rs : List Run) → Uncut j → RowOf j rs → Number (InRow j) (holds rs)
  row_number j rs uncut l = number_map (Covers rs) (InRow j) (λ x. pixel (pos x) j) (λ p. nat_abs p.column) (λ x c. refl) (λ x c. (refl, ((l.cover x).0 c).1)) back (runs_number 0 rs l.apart)
    where
      back : (p : Pixel) → InRow j p → Covers rs (nat_abs p.column) × (p ≡ pixel (pos (nat_abs p.column)) j)
      back p h =
          let b : black (pixel p.column j) = subst (λ (z : ℤ). black (pixel p.column z)) h.0 h.1 in
          let c = uncut p.column b in
          let e = pos_abs p.column c.0 in
          ((l.cover (nat_abs p.column)).1 (below p.column columns c.0 c.1, subst (λ (z : ℤ). black (pixel z j)) e b), ap₂ pixel e h.0)

  -- n rows: the rows before the last one, and that one
  pub total_number : (j : ℤ) (rs : ℕ → List Run) (n : ℕ) → ((k : ℕ) → k < n → Uncut (j +ℤ pos k)) → ((k : ℕ) → k < n → RowOf (j +ℤ pos k) (rs k)) →
      Number (λ p. InRows j n p.row × black p) (total rs n)
  unfolding total
  total_number j rs zero uncut ans = number_none _ (λ p h. no_row j p.row h.0)
  total_number j rs (suc n) uncut ans =
      number_or _ (InRow (j +ℤ pos n)) _ (λ p h q. not_old j p.row n h.0.1 q.0) (λ p. (split p, merge p))
      (total_number j rs n (λ k l. uncut k (omega arith)) (λ k l. ans k (omega arith)))
      (row_number (j +ℤ pos n) (rs n) (uncut n (omega arith)) (ans n (omega arith)))
    where
      split : (p : Pixel) → InRows j (suc n) p.row × black p → (InRows j n p.row × black p) ⊎ InRow (j +ℤ pos n) p
      split p h = elim (le_or_lt (j +ℤ pos n) p.row) [ inl k ↦ inr (last_row j p.row n h.0.1 k, h.1) | inr k ↦ inl ((h.0.0, k), h.1) ]

      merge : (p : Pixel) → (InRows j n p.row × black p) ⊎ InRow (j +ℤ pos n) p → InRows j (suc n) p.row × black p
      merge p (inl h) = (old_row j p.row n h.0, h.1)
      merge p (inr h) = (new_row j p.row n h.0, h.1)

  -- so where the black pixels of the rows are known to be c, the runs hold c
  pub total_is : (j : ℤ) (rs : ℕ → List Run) (n c : ℕ) → ((k : ℕ) → k < n → Uncut (j +ℤ pos k)) → ((k : ℕ) → k < n → RowOf (j +ℤ pos k) (rs k)) →
      Number (λ p. InRows j n p.row × black p) c → total rs n ≡ c
  total_is j rs n c uncut ans N = number_unique Pixel (λ p. InRows j n p.row × black p) (total rs n) c (total_number j rs n uncut ans) N

-- ---- one column, over the rows of a raster
-- runs cover the signed column i
abbrev pub CoversZ : List Run → ℤ → Type 0
CoversZ rs i = (x : ℕ) × (i ≡ pos x) × Covers rs x

pub covered_rows : (columns rows : ℕ) (black : Pixel → Type 0) (i : ℤ) (rs : ℕ → List Run) (d : ℕ) →
    ((j : ℤ) → black (pixel i j) → (pos 0 ≼ i) × (i ≺ pos columns) × (pos 0 ≼ j) × (j ≺ pos rows)) →
    ((j : ℕ) → j < rows → RowOf columns black (pos j) (rs j)) →
    Number (λ j. black (pixel i j)) d → Number (λ j. (j < rows) × CoversZ (rs j) i) d
covered_rows columns rows black i rs d uncut ans = number_map (λ j. black (pixel i j)) _ nat_abs pos (λ j b. sym (pos_abs j (uncut j b).2)) to (λ j h. (back j h, refl))
  where
    to : (j : ℤ) → black (pixel i j) → (nat_abs j < rows) × CoversZ (rs (nat_abs j)) i
    to j b =
        let c = uncut j b in
        let e = pos_abs i c.0 in
        let f = pos_abs j c.2 in
        let l = below j rows c.2 c.3 in
        (l, (nat_abs i, e, ((ans (nat_abs j) l).cover (nat_abs i)).1 (below i columns c.0 c.1, subst (λ (z : ℤ). black (pixel z (pos (nat_abs j)))) e (subst (λ (z : ℤ). black (pixel i z)) f b))))

    back : (j : ℕ) → (j < rows) × CoversZ (rs j) i → black (pixel i (pos j))
    back j h = let (x, e, c) = h.1 in subst (λ (z : ℤ). black (pixel z (pos j))) (sym e) (((ans j h.0).cover x).0 c).1
