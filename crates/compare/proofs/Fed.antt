-- The rows fed one after the other: before each turn the rest of each file starts with the row that comes next.
use Prim.Native.Nat.{ℕ, zero, suc, ◌+◌, ◌-◌, ◌*◌, ◌≤◌, ◌<◌}
use native.Mathlib.Nat.{zero-mul, suc-mul}
use native.Mathlib.Omega.{arith}
use mathlib.Core.Path.{◌≡◌, refl, sym, ap, ap₂, ◌∙◌}
use mathlib.Core.Bool.{true, ◌&&◌}
use mathlib.Core.List.{List, [], ◌∷◌, ◌++◌, append_assoc}
use lib.ListN.{length, take, drop, length-take, length-drop, length-append}
use lib.Seq.{take_at, drop-drop}
use borrow.Author.Tests.{le-leb, lt-ltb}
use Rattle.std.specs.Prelude.{unwrap_or}
use Rattle.integers.proofs.Tests.{and_true}
use Rattle.limits.specs.Sizes.{is_size, is_row}
use Rattle.limits.proofs.Sizes.{size_iff}
use Rattle.bits.specs.Bits.{packed_length}
use Rattle.text.specs.Put.{started}
use Rattle.lines.specs.Lines.{Line, line_text, lines_text}
use Rattle.lines.specs.Rows.{row_lines}
use Rattle.lines.specs.Put.{text_room, is_whole}
use Rattle.lines.proofs.Theorems.{row_fits}
use Rattle.compare.specs.declared.Overlay.{Overlay}
use Rattle.compare.specs.Step.{Stepped, is_next, next_text}
use Rattle.compare.specs.Report.{film_lines}
use Rattle.compare.specs.Run.{fed}
use Rattle.compare.proofs.Steps.{steps}

-- the text of lines behind lines
lines_behind : (l m : List Line) → lines_text (l ++ m) ≡ lines_text l ++ lines_text m
unfolding lines_text
lines_behind [] m = refl
lines_behind (x ∷ l) m = ap (λ (t : List ℕ). line_text x ++ t) (lines_behind l m) ∙ sym (append_assoc (line_text x) (lines_text l) (lines_text m))

module _ (columns : ℕ) (size : is_size columns ≡ true) where
  abbrev w : ℕ
  w = packed_length columns

  abbrev at : ℕ → Overlay
  at k = record { columns = columns; left = k }

  -- row j, where k rows are left, of the bytes that are left
  abbrev row_left : List ℕ → ℕ → ℕ → List ℕ
  row_left f k j = take w (drop ((k - 1 - j) * w) f)

  -- the next row is the one at the front, no row being above it
  first_left : (f : List ℕ) (k : ℕ) → row_left f (suc k) k ≡ take w f
  first_left f k =
      let e : suc k - 1 - k ≡ 0 = omega arith in
      ap (λ (n : ℕ). take w (drop n f)) (ap (λ (n : ℕ). n * w) e ∙ zero-mul w)

  -- the others have one row less above them in the bytes behind it
  others_left : (f : List ℕ) (k j : ℕ) → j < k → row_left f (suc k) j ≡ row_left (drop w f) k j
  others_left f k j h =
      let e : suc k - 1 - j ≡ suc (k - 1 - j) = omega arith in
      let m : (suc k - 1 - j) * w ≡ w + (k - 1 - j) * w = ap (λ (n : ℕ). n * w) e ∙ suc-mul (k - 1 - j) w ∙ omega arith in
      ap (λ (n : ℕ). take w (drop n f)) m ∙ ap (take w) (sym (drop-drop ((k - 1 - j) * w) w f))

  -- where all rows that are left are there, so is the next
  whole_row : (f : List ℕ) (k : ℕ) → suc k * w ≤ length f → w ≤ length (take w f)
  whole_row f k h = omega (arith, length-take w f, suc-mul k w)

  -- and so are those behind it
  whole_rest : (f : List ℕ) (k : ℕ) → suc k * w ≤ length f → k * w ≤ length (drop w f)
  whole_rest f k h = omega (arith, length-drop w f, suc-mul k w)

  -- so the step is ready: a row is left, whole in both films, and the buffer has room for any row's text
  ready : (k : ℕ) (f g space : List ℕ) → suc k ≤ 16384 → length space ≡ text_room → suc k * w ≤ length f → suc k * w ≤ length g →
      is_next (at (suc k)) (take w f) (take w g) space ≡ true
  ready k f g space few room hf hg =
      let row : suc k - 1 < 16384 = omega arith in
      let u = take w f in
      let v = take w g in
      and_true _ _ (le-leb 1 (suc k) (omega arith))
      (and_true (is_size columns) (is_row (suc k - 1) && is_whole w (length u) (length v) (length space)) size
      (and_true (is_row (suc k - 1)) (is_whole w (length u) (length v) (length space)) (lt-ltb _ _ row)
      (and_true _ _ (le-leb w (length u) (whole_row f k hf))
      (and_true _ _ (le-leb w (length v) (whole_row g k hg)) (le-leb text_room (length space) (omega (arith, room)))))))

  -- and leaves the buffer as long as it was, the text being no longer
  same_room : (t space : List ℕ) → length space ≡ text_room → length t ≤ text_room → length (started t space) ≡ text_room
  same_room t space room h = omega (arith, length-append t (drop (length t) space), length-drop (length t) space)

  -- turn by turn: the text of a row is written, and the rest is fed with one row less
  pub feeds : (k : ℕ) → k ≤ 16384 → (f g space : List ℕ) → length space ≡ text_room → k * w ≤ length f → k * w ≤ length g → (a b : ℕ → List ℕ) →
      ((j : ℕ) → j < k → a j ≡ row_left f k j) →
      ((j : ℕ) → j < k → b j ≡ row_left g k j) →
      fed k (at k) f g space ≡ lines_text (film_lines columns a b k)
  unfolding fed film_lines lines_text
  feeds zero few f g space room hf hg a b ea eb = refl
  feeds (suc k) few f g space room hf hg a b ea eb =
      let u : List ℕ = take w f in
      let v : List ℕ = take w g in
      let t : List ℕ = next_text (at (suc k)) u v in
      let last : suc k - 1 ≡ k = omega arith in
      let fits = row_fits u v columns (suc k - 1) ((size_iff columns).0 size).few (omega arith) in
      let rest = feeds k (omega arith) (drop w f) (drop w g) (started t space) (same_room t space room fits) (whole_rest f k hf) (whole_rest g k hg) a b
      (λ j l. ea j (omega arith) ∙ others_left f k j l) (λ j l. eb j (omega arith) ∙ others_left g k j l) in
      let row : t ≡ lines_text (row_lines (a k) (b k) columns k) =
      ap (λ (j : ℕ). lines_text (row_lines u v columns j)) last
      ∙ ap₂ (λ (x y : List ℕ). lines_text (row_lines x y columns k)) (sym (ea k (omega arith) ∙ first_left f k)) (sym (eb k (omega arith) ∙ first_left g k)) in
      ap (λ (s : Stepped). take (unwrap_or s.count 0) s.buffer ++ fed k s.overlay (drop w f) (drop w g) s.buffer) (steps (at (suc k)) u v space (ready k f g space few room hf hg))
      ∙ ap₂ ◌++◌ (take_at t (drop (length t) space) (length t) refl) (ap (λ (n : ℕ). fed k (at n) (drop w f) (drop w g) (started t space)) last ∙ rest)
      ∙ ap (λ (l : List ℕ). l ++ lines_text (film_lines columns a b k)) row
      ∙ sym (lines_behind (row_lines (a k) (b k) columns k) (film_lines columns a b k))
