-- Demand 3 over the bits of bands: laid over clear bytes, the bits that are 1 are the black pixels of the bands' rows, one for each. So what the crate stroke counts
-- of pixels is the number of those bits.
use Prim.Native.Nat.{ℕ, ◌+◌, ◌-◌, ◌*◌, ◌/◌, ◌%◌, ◌≤◌, ◌<◌}
use native.Mathlib.Nat.{zero-add, mul-le-mul_left, div-add-mod, div-lt_iff_lt-mul, le-div_iff_mul-le, mul_comm}
use native.Mathlib.Omega.{arith}
use native.Mathlib.Decide.{dec_lt}
use mathlib.Core.Path.{◌≡◌, refl, sym, ap, ap₂, subst, ◌∙◌}
use mathlib.Core.Logic.{◌↔◌, inl, inr}
use mathlib.Core.Bool.{true}
use mathlib.Core.List.{List}
use lib.Dec.{leb→le, le→leb, ltb→lt, lt→ltb}
use lib.ListN.{replicate, length-replicate, get_or-replicate, get_or-eq_default}
use lib.Signed.{le_z_yes, lt_z_yes}
use lib.IntN.{ℤ, pos, negsuc, nat_abs}
use Rattle.integers.specs.Orders.{◌≼◌, ◌≺◌}
use Rattle.integers.specs.Count.{Number}
use Rattle.integers.proofs.Tests.{clash}
use Rattle.integers.proofs.Count.{number_map}
use Rattle.plane.specs.Point.{Pt}
use Rattle.bits.specs.Bits.{bit_at}
use Rattle.bits.proofs.Bytes.{bit_clear}
use Rattle.setting.specs.Setting.{Dy}
use Rattle.stroke.specs.Sweep.{Seg, path_points}
use Rattle.stroke.specs.Weight.{Pixel, BlackPixel, InRows}
use Rattle.stroke.proofs.Theorems.{rows_hold, column_holds}
use Rattle.band.proofs.Pixels.{is_row, is_column, row_before}
use Rattle.demands.specs.Bands.{Bands}
use Rattle.demands.specs.Demand3.{entries, Clear, ZerosClear, OfRows, BandsHold, LevelBands, LevelRaster}
use Rattle.demands.proofs.Weight.{pens_laws, greatest_offset}
use Rattle.demands.proofs.Bands.{bands_over, bands_black}

pub zeros_clear : ZerosClear
zeros_clear n z = bit_clear (replicate n 0) z (elim (dec_lt (z / 8) n) [
  | yes h ↦ get_or-replicate n (z / 8) 0 0 h
  | no h ↦ get_or-eq_default (replicate n 0) 0 {n = z / 8} (omega (arith, length-replicate {A = ℕ} n 0))
])

-- ---- pixels of a raster by natural numbers
abbrev pixel : ℕ → ℕ → Pixel
pixel x r = record { column = pos x; row = pos r }

row_natural : (j v : ℕ) (z : ℤ) → (pos j ≼ z) × (z ≺ pos (j + v)) → (z ≡ pos (nat_abs z)) × (j ≤ nat_abs z) × (nat_abs z < j + v)
row_natural j v (pos r) h = (refl, leb→le j r h.0.le, ltb→lt r (j + v) h.1.lt)
row_natural j v (negsuc r) h = absurd h.0.le

column_natural : (columns : ℕ) (z : ℤ) → (pos 0 ≼ z) × (z ≺ pos columns) → (z ≡ pos (nat_abs z)) × (nat_abs z < columns)
column_natural columns (pos x) h = (refl, ltb→lt x columns h.1.lt)
column_natural columns (negsuc x) h = absurd h.0.le

in_rows : (j v r : ℕ) → j ≤ r → r < j + v → (pos j ≼ pos r) × (pos r ≺ pos (j + v))
in_rows j v r h k = (le_z_yes (le→leb j r h), lt_z_yes (lt→ltb r (j + v) k))

-- ---- the bits of bands that were clear
module _ (cs : List Pt) (g : Seg) (columns rows stride first n : ℕ) (before after : List ℕ) (clear : Clear before) (r : Bands cs (entries g) columns rows stride first n before after) where
  wide : columns ≤ 8 * stride
  wide = (bands_over r).wide

  -- the row i below the top one is raster row flip i; and raster row j lies flip j below the top one
  abbrev flip : ℕ → ℕ
  flip i = first + (n - 1) - i

  -- a column's bit is 1 where its pixel is black
  column_set : (i x : ℕ) → i < n → x < columns → (bit_at after (8 * stride * i + x) ≡ true) ↔ BlackPixel cs g (pixel x (flip i))
  unfolding path_points
  column_set i x h k =
      let b = (bands_black cs (entries g) columns rows stride first n before after r).bits i x h k in
      ((λ t. elim (b.0 t) [ inl a ↦ absurd (clash a (clear (8 * stride * i + x))) | inr a ↦ a ]), λ t. b.1 (inr t))

  -- a bit that is 1 is a column's
  set_column : (z : ℕ) → bit_at after z ≡ true → z % (8 * stride) < columns
  set_column z t = elim (dec_lt (z % (8 * stride)) columns) [
    | yes h ↦ h
    | no h ↦ absurd (clash t ((bands_black cs (entries g) columns rows stride first n before after r).others z
        (λ i x a b e. h (omega (arith, b, ap (λ (y : ℕ). y % (8 * stride)) e, is_column stride i x (omega (arith, b, wide))))) ∙ clear z))
  ]

  twice : (i : ℕ) → i < n → flip (flip i) ≡ i
  twice i h = omega arith

  twice_row : (j : ℕ) → first ≤ j → j < first + n → flip (flip j) ≡ j
  twice_row j h k = omega arith

  -- ---- v rows: the pixel in column x of row j is bit x of the row that lies so far below the top one
  module _ (i v : ℕ) (fits : i + v ≤ n) (some : 1 ≤ v)
      (uncut : (x k : ℤ) → InRows (pos (first + n - (i + v))) v k → BlackPixel cs g (record { column = x; row = k }) → (pos 0 ≼ x) × (x ≺ pos columns)) where
    abbrev Counted : Pixel → Type 0
    Counted p = InRows (pos (first + n - (i + v))) v p.row × BlackPixel cs g p

    abbrev bit : Pixel → ℕ
    bit p = 8 * stride * flip (nat_abs p.row) + nat_abs p.column

    abbrev back : ℕ → Pixel
    back z = pixel (z % (8 * stride)) (flip (z / (8 * stride)))

    record Natural (p : Pixel) : Type 0 where
      is : p ≡ pixel (nat_abs p.column) (nat_abs p.row)
      narrow : nat_abs p.column < columns
      low : first + n - (i + v) ≤ nat_abs p.row
      high : nat_abs p.row < first + n - (i + v) + v

    natural : (p : Pixel) → Counted p → Natural p
    natural p h =
        let a = row_natural (first + n - (i + v)) v p.row h.0 in
        let b = column_natural columns p.column (uncut p.column p.row h.0 h.1) in
        record { is = ap₂ (λ (x k : ℤ). record { column = x; row = k }) b.0 a.0; narrow = b.1; low = a.1; high = a.2 }

    undo : (p : Pixel) → Counted p → back (bit p) ≡ p
    undo p h =
        let f = natural p h in
        let x = nat_abs p.column in
        let k = flip (nat_abs p.row) in
        ap₂ pixel (is_column stride k x (omega (arith, f.narrow, wide)))
        (ap flip (is_row stride k x (omega (arith, f.narrow, wide))) ∙ twice_row (nat_abs p.row) (omega (arith, f.low)) (omega (arith, f.high)))
        ∙ sym f.is

    there : (p : Pixel) → Counted p → OfRows stride i v (bit p) × (bit_at after (bit p) ≡ true)
    there p h =
        let f = natural p h in
        let x = nat_abs p.column in
        let k = flip (nat_abs p.row) in
        let least : i ≤ k = omega (arith, f.high) in
        let most : k < i + v = omega (arith, f.low, f.high) in (
          (omega (arith, mul-le-mul_left {m = i} {n = k} (8 * stride) least), row_before stride (i + v) k x most (omega (arith, f.narrow, wide))),
          (column_set k x (omega (arith, most)) f.narrow).1
              (subst (BlackPixel cs g) (f.is ∙ ap (pixel x) (sym (twice_row (nat_abs p.row) (omega (arith, f.low)) (omega (arith, f.high))))) h.1),
        )

    from : (z : ℕ) → OfRows stride i v z × (bit_at after z ≡ true) → Counted (back z) × (z ≡ bit (back z))
    from z h =
        let x = z % (8 * stride) in
        let k = z / (8 * stride) in
        let positive : 0 < 8 * stride = omega (arith, (bands_over r).some) in
        let least : i ≤ k = (le-div_iff_mul-le {k = 8 * stride} {x = i} {y = z} positive).1 (omega (arith, h.0.0, mul_comm i (8 * stride))) in
        let most : k < i + v = (div-lt_iff_lt-mul {k = 8 * stride} {x = z} {y = i + v} positive).1 (omega (arith, h.0.1, mul_comm (i + v) (8 * stride))) in
        let at : 8 * stride * k + x ≡ z = div-add-mod z (8 * stride) in (
          (
            in_rows (first + n - (i + v)) v (flip k) (omega (arith, most)) (omega (arith, least, most)),
            (column_set k x (omega (arith, most)) (set_column z h.1)).0 (subst (λ (y : ℕ). bit_at after y ≡ true) (sym at) h.1),
          ),
          sym (ap (λ (m : ℕ). 8 * stride * m + x) (twice k (omega (arith, most))) ∙ at),
        )

    rows_number : (c : ℕ) → Number Counted c → Number (λ z. OfRows stride i v z × (bit_at after z ≡ true)) c
    rows_number c = number_map Counted (λ z. OfRows stride i v z × (bit_at after z ≡ true)) bit back undo there from

  -- ---- a column: the pixel in row j is the bit of the row that lies so far below the top one
  module _ (x : ℕ) (narrow : x < columns) (within : (j : ℤ) → BlackPixel cs g (record { column = pos x; row = j }) → (pos first ≼ j) × (j ≺ pos (first + n))) where
    abbrev Marked : ℤ → Type 0
    Marked j = BlackPixel cs g (record { column = pos x; row = j })

    undo_row : (j : ℤ) → Marked j → pos (flip (flip (nat_abs j))) ≡ j
    undo_row j b = let f = row_natural first n j (within j b) in ap pos (twice_row (nat_abs j) f.1 f.2) ∙ sym f.0

    there_row : (j : ℤ) → Marked j → (flip (nat_abs j) < n) × (bit_at after (8 * stride * flip (nat_abs j) + x) ≡ true)
    there_row j b =
        let f = row_natural first n j (within j b) in
        let low : flip (nat_abs j) < n = omega (arith, f.1, f.2) in
        (low, (column_set (flip (nat_abs j)) x low narrow).1 (subst Marked (sym (undo_row j b)) b))

    from_row_lem : (i : ℕ) → (i < n) × (bit_at after (8 * stride * i + x) ≡ true) → Marked (pos (flip i)) × (i ≡ flip (nat_abs (pos (flip i))))
    from_row_lem i h = ((column_set i x h.0 narrow).0 h.1, sym (twice i h.0))

    column_number : (d : ℕ) → Number Marked d → Number (λ i. (i < n) × (bit_at after (8 * stride * i + x) ≡ true)) d
    column_number d = number_map Marked (λ i. (i < n) × (bit_at after (8 * stride * i + x) ≡ true)) (λ j. flip (nat_abs j)) (λ i. pos (flip i)) undo_row there_row from_row_lem

-- ---- demand 3
pub bands_hold : BandsHold
bands_hold cs p g u v c columns rows stride first n i before after fits m clear r =
    rows_number cs g columns rows stride first n before after clear r i v fits m.direction.rising m.uncut c
    (rows_hold cs _ _ (pens_laws p) g u v m.times m.direction c (greatest_offset p u v c m.greatest) (pos (first + n - (i + v))) m.inside)

pub level_bands : LevelBands
level_bands cs p g columns rows stride first n x before after narrow m within clear r =
    column_number cs g columns rows stride first n before after clear r x narrow within (Dy p.setting)
    (column_holds cs _ (Dy p.setting) (pens_laws p) g m.level m.differs (pos x) m.inside)

pub level_raster : LevelRaster
level_raster cs p g columns rows stride x before after narrow m clear r =
    level_bands cs p g columns rows stride 0 rows x before after narrow m
    (λ j b. let c = m.uncut j b in (c.2, subst (λ (k : ℕ). j ≺ pos k) (sym (zero-add rows)) c.3)) clear r
