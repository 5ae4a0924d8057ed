-- What a band is, by its rows, by its parts and by its pixels. The claims are types; proofs/Theorems.antt proves each under its name in small letters.
--
-- Why they are true: bit z of the bytes is column z % (8 stride) of the row z / (8 stride) below the top one. So bytes that are cut after whole rows are two
-- bands, each with its own rows; and of one row alone what is laid over its bytes is the packed row.
use Rattle.std.specs.Prelude.{ℕ, zero, suc, ◌+◌, ◌-◌, ◌*◌, ◌≤◌, ◌<◌, ◌≡◌, ◌↔◌, Bool, ◌||◌, List, ◌++◌, length, take, drop, ℤ, pos}
use Rattle.limits.specs.Exactly.{BadRow, NoRoom}
use Rattle.plane.specs.Point.{Pt}
use Rattle.bits.specs.Bits.{packed, bit_at, laid_over}
use Rattle.stroke.specs.Sweep.{path_points}
use Rattle.stroke.specs.Runs.{black_at}
use Rattle.band.specs.Band.{band_over, top_row, room_for}
use Rattle.band.specs.Refuses.{BadBand, NoBandRoom}

-- ---- by its rows
-- n rows laid over bytes one by one, `stride` bytes to each, the top one, n - 1, first: a second definition of a band, which knows of rows but not of bits
unfoldable pub rows_over : (ℕ → List ℕ) → ℕ → ℕ → List ℕ → List ℕ
rows_over row stride zero b = b
rows_over row stride (suc n) b = laid_over (take stride b) (row n) ++ rows_over row stride n (drop stride b)

-- the packed row of raster row j
abbrev pub packed_row : List Pt → List ℤ → ℕ → ℕ → List ℕ
packed_row cs path columns j = packed (λ x. black_at cs (path_points path) (pos j) (pos x)) columns

-- a band equals its packed rows laid over one by one, for any corners. (Whether a row fits the stride and the bytes are enough plays no part: both stop where
-- they end.)
abbrev pub BandIsRows : Type 0
BandIsRows =
    (cs : List Pt) (path : List ℤ) (columns first n stride : ℕ) (b : List ℕ) → 1 ≤ stride →
    band_over cs path columns first n stride b ≡ rows_over (λ k. packed_row cs path columns (first + k)) stride n b

-- ---- by its parts
-- two bands meet at any seam: the band of k + m rows is that of the upper m, on the first m * stride bytes, and after it that of the lower k, on the rest
abbrev pub BandsMeet : Type 0
BandsMeet =
    (cs : List Pt) (path : List ℤ) (columns first k m stride : ℕ) (b : List ℕ) → 1 ≤ stride →
    band_over cs path columns first (k + m) stride b
    ≡ band_over cs path columns (first + k) m stride (take (m * stride) b) ++ band_over cs path columns first k stride (drop (m * stride) b)

-- ---- by its pixels
-- What is laid over a band's bytes, bit by bit. The row i below the top one is raster row first + (n - 1) - i, and its column x is bit 8 * stride * i + x
pub record LaidOver (black : ℕ → ℕ → Bool) (columns first n stride : ℕ) (before after : List ℕ) : Type 0 where
  -- the bit of a pixel is 1 that was or that is black
  pub pixels : (i x : ℕ) → i < n → x < columns → bit_at after (8 * stride * i + x) ≡ (bit_at before (8 * stride * i + x) || black (first + (n - 1) - i) x)
  -- every other bit is the old one: the spare bits and the padding after a row, and what comes after the rows
  pub others : (z : ℕ) → ((i x : ℕ) → i < n → x < columns → ¬ (z ≡ 8 * stride * i + x)) → bit_at after z ≡ bit_at before z
  pub past : drop (n * stride) after ≡ drop (n * stride) before
  pub size : length after ≡ length before

abbrev pub BandBits : Type 0
BandBits =
    (cs : List Pt) (path : List ℤ) (columns first n stride : ℕ) (b : List ℕ) → columns ≤ 8 * stride → n * stride ≤ length b →
    LaidOver (λ j x. black_at cs (path_points path) (pos j) (pos x)) columns first n stride b (band_over cs path columns first n stride b)

-- ---- what is checked of it
-- 5: the row that is checked is none of the raster's exactly when a row of the band is none, or it has no rows
abbrev pub TopRowIs : Type 0
TopRowIs = (rows first n : ℕ) → BadRow rows (top_row rows first n) ↔ BadBand rows first n

-- 7: the room that is checked is too little for some rows exactly when a row does not fit the stride or the rows do not fit the bytes
abbrev pub RoomForIs : Type 0
RoomForIs = (columns n stride len : ℕ) → 1 ≤ n → NoRoom n (room_for columns stride len) ↔ NoBandRoom columns n stride len
