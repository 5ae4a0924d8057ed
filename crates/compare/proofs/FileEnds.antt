-- How a film's file ends: the number of bytes from the film's last byte on tells a file that is too short from one that is too long.
use Prim.Native.Nat.{ℕ, ◌+◌, ◌-◌, ◌*◌}
use native.Mathlib.Omega.{arith}
use mathlib.Core.Path.{◌≡◌, refl, sym, ap, ◌∙◌}
use mathlib.Core.Bool.{Bool, true, false, cond}
use mathlib.Core.List.{List}
use lib.Dec.{ltb}
use lib.ListN.{length, length-drop}
use borrow.Author.Tests.{ltb-true, ltb-false}
use Rattle.bits.specs.Bits.{packed_length}
use Rattle.pbm.specs.Pbm.{data_length}
use Rattle.pbm.specs.Theorems.{Headed}
use Rattle.compare.specs.Refusals.{last_byte}
use Rattle.compare.specs.Report.{end_of}
use Rattle.compare.specs.Theorems.{ShortData, BytesAfter}
use Rattle.compare.proofs.Heads.{one_length, is_raster, start_few, start_some}
use Rattle.compare.proofs.LastByte.{last_here}

module _ {f : List ℕ} {columns rows start : ℕ} (h : Headed f columns rows start) where
  -- the sizes of a header are those of a raster, so that its rows fill so many bytes
  data_long : data_length columns rows ≡ rows * packed_length columns
  data_long = ap (λ (t : Bool). cond t (rows * packed_length columns) 0) (is_raster h)

  -- no header is longer than 15 bytes, so the last byte is looked for where it stands, and the bytes from there on are what lies behind all others
  pub end_is : end_of f columns rows start ≡ length f - (start + rows * packed_length columns - 1)
  end_is =
      let last = sym (last_here columns rows start {r = start + data_length columns rows - 1} (start_few h) refl) in
      length-drop (last_byte columns rows start) f ∙ ap (λ (k : ℕ). length f - k) last ∙ ap (λ (k : ℕ). length f - (start + k - 1)) data_long

  -- none: a byte is missing, by this header and so by any that the text starts with, which is the same
  pub end_short : ltb (end_of f columns rows start) 1 ≡ true → ShortData f
  end_short e = (columns, (rows, (start, (h, omega (arith, ltb-true (end_of f columns rows start) 1 e, end_is, start_some h)))))

  -- one at least: all bytes are there, by any header of the text
  pub end_not_short : ltb (end_of f columns rows start) 1 ≡ false → ¬ ShortData f
  end_not_short e s = omega (arith, ltb-false (end_of f columns rows start) 1 e, end_is, one_length h s.1.1.1.0, s.1.1.1.1)

  -- more than one: bytes follow the last
  pub end_after : ltb 1 (end_of f columns rows start) ≡ true → BytesAfter f
  end_after e = (columns, (rows, (start, (h, omega (arith, ltb-true 1 (end_of f columns rows start) e, end_is, start_some h)))))

  -- one at most: the last byte of the film is the last of the file, by any header of the text
  pub end_not_after : ltb 1 (end_of f columns rows start) ≡ false → ¬ BytesAfter f
  end_not_after e s = omega (arith, ltb-false 1 (end_of f columns rows start) e, end_is, one_length h s.1.1.1.0, s.1.1.1.1)
