-- The lines of columns in a buffer: one column, and columns behind others.
use Prim.Native.Nat.{ℕ, ◌+◌, ◌-◌, ◌*◌, ◌≤◌, ◌<◌, min}
use native.Mathlib.Omega.{arith}
use mathlib.Core.Path.{◌≡◌, refl, sym, ap, ◌∙◌}
use mathlib.Core.Bool.{Bool, true, false, cond, xor, beq}
use mathlib.Core.List.{List}
use lib.ListN.{length, get_or}
use Rattle.limits.specs.Sizes.{raster_max}
use Rattle.bits.specs.Bits.{bit_at}
use Rattle.text.specs.Put.{Put, put_at}
use Rattle.text.proofs.Pieces.{put_fits, put_next, put_nothing, put_length}
use Rattle.difference.specs.Apart.{apart}
use Rattle.difference.proofs.OneByte.{same_byte}
use Rattle.lines.specs.Lines.{pixel_text}
use Rattle.lines.specs.Held.{column_text, columns_text}
use Rattle.lines.proofs.Texts.{column_shown, column_not, one_column as Texts·one-column, columns_few, columns_add, columns_none}

-- ---- one column
-- whether two rows differ in a column, by what each has there
pub alike : (s t : Bool) → beq s t ≡ true → xor s t ≡ false
unfolding xor
alike true true e = refl
alike true false e = sym e
alike false true e = sym e
alike false false e = refl

pub unlike : (s t : Bool) → beq s t ≡ false → xor s t ≡ true
unfolding xor
unlike true true e = sym e
unlike true false e = refl
unlike false true e = refl
unlike false false e = sym e

module _ (a b digits out : List ℕ) (at i : ℕ) where
  pub no_column : apart a b i ≡ false → at ≤ length out → record { end = at; buffer = out } ≡ put_at out at (column_text a b digits i)
  no_column e h = sym (put_nothing out at h) ∙ ap (put_at out at) (sym (column_not a b digits i e))

  pub one_column : {first : Bool} → apart a b i ≡ true → first ≡ bit_at a i → put_at out at (pixel_text i digits (cond first 1 2)) ≡ put_at out at (column_text a b digits i)
  one_column e f = ap (λ (t : Bool). put_at out at (pixel_text i digits (cond t 1 2))) f ∙ ap (put_at out at) (sym (column_shown a b digits i e))

-- ---- columns that are the same in both rows have no lines
module _ (a b digits out : List ℕ) (at first n : ℕ) (h : at ≤ length out) where
  pub no_columns : ((x : ℕ) → first ≤ x → x < first + n → apart a b x ≡ false) → record { end = at; buffer = out } ≡ put_at out at (columns_text a b digits first n)
  no_columns e = sym (put_nothing out at h) ∙ ap (put_at out at) (sym (columns_none a b digits first n e))

  -- those of a byte
  pub no_byte : (k : ℕ) → get_or a k 0 ≡ get_or b k 0 → first ≡ 8 * k → n ≤ 8 → record { end = at; buffer = out } ≡ put_at out at (columns_text a b digits first n)
  no_byte k e f l = no_columns (λ x low high. same_byte a b k x e (omega arith))

-- ---- the columns of bytes: a byte more than those from f on and before k
pub whole_bytes : (k c : ℕ) → 8 * k ≤ c → min (8 * k) c ≡ 8 * k
whole_bytes k c h = omega arith

byte_end : (f k c : ℕ) (e : ℕ) → f ≤ k → 8 * k ≤ e → (8 * k - 8 * f) + (e - 8 * k) ≡ e - 8 * f
byte_end f k c e h l = omega arith

pub byte_more : (f k c : ℕ) → f ≤ k → 8 * k ≤ c → (min (8 * k) c - 8 * f) + (min (8 * k + 8) c - 8 * k) ≡ min (8 * (k + 1)) c - 8 * f
byte_more f k c h l =
    let s : 8 * (k + 1) ≡ 8 * k + 8 = omega arith in
    ap (λ (x : ℕ). (x - 8 * f) + (min (8 * k + 8) c - 8 * k)) (whole_bytes k c l)
    ∙ byte_end f k c (min (8 * k + 8) c) h (omega arith)
    ∙ ap (λ (x : ℕ). min x c - 8 * f) (sym s)

-- ---- columns behind others: `next` and `out` are where n columns from `first` on end, and the buffer that has them from `at` on
module _ (a b digits : List ℕ) (short : length digits ≤ 5) (at first n : ℕ) (few : first + n ≤ raster_max) (before : List ℕ) where
  abbrev text : List ℕ
  text = columns_text a b digits first n

  -- none yet
  pub none : n ≡ 0 → at ≤ length before → record { end = at; buffer = before } ≡ put_at before at text
  unfolding columns_text
  none e h = sym (put_nothing before at h) ∙ ap (λ (k : ℕ). put_at before at (columns_text a b digits first k)) (sym e)

  module _ {next : ℕ} {out : List ℕ} (has : record { end = next; buffer = out } ≡ put_at before at text) where
    -- the buffer is as long as it was
    pub same_room : length out ≡ length before
    same_room = ap (λ (p : Put). length p.buffer) has ∙ put_length before at text

    -- there is room for k columns more
    pub room_left : (k : ℕ) → at + 14 * (n + k) ≤ length before → next + 14 * k ≤ length out
    room_left k h =
        let l = columns_few a b digits first n few short in
        let e : next ≡ at + length text = ap (λ (p : Put). p.end) has ∙ ap (λ (p : Put). p.end) (put_fits before at text (omega arith)) in
        omega (arith, same_room)

    -- and behind them k columns more, from column i on, make m
    pub more_behind : (i k m : ℕ) {next' : ℕ} {out' : List ℕ} → first + n ≡ i → n + k ≡ m → first + m ≤ raster_max → at + 14 * m ≤ length before →
        record { end = next'; buffer = out' } ≡ put_at out next (columns_text a b digits i k) →
        record { end = next'; buffer = out' } ≡ put_at before at (columns_text a b digits first m)
    more_behind i k m p q f h e =
        let l = columns_few a b digits first n few short in
        let r = columns_few a b digits (first + n) k (omega arith) short in
        let e' = e ∙ ap (λ (x : ℕ). put_at out next (columns_text a b digits x k)) (sym p) in
        put_next before at text (columns_text a b digits (first + n) k) (omega arith) has e'
        ∙ ap (put_at before at) (columns_add a b digits first n k ∙ ap (columns_text a b digits first) q)

    -- one column more
    pub column_behind : (i m : ℕ) {next' : ℕ} {out' : List ℕ} → first + n ≡ i → n + 1 ≡ m → first + m ≤ raster_max → at + 14 * m ≤ length before →
        record { end = next'; buffer = out' } ≡ put_at out next (column_text a b digits i) →
        record { end = next'; buffer = out' } ≡ put_at before at (columns_text a b digits first m)
    column_behind i m p q f h e = more_behind i 1 m p q f h (e ∙ ap (put_at out next) (sym (Texts·one-column a b digits i)))
