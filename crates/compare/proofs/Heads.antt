-- What a text's header says: there is none or one, and one says how long the film's file is.
use Prim.Native.Nat.{ℕ, ◌+◌, ◌*◌, ◌≤◌}
use native.Mathlib.Omega.{arith}
use mathlib.Core.Path.{◌≡◌, sym, ap, ap₂, ◌∙◌}
use mathlib.Core.Bool.{true, false, ◌&&◌}
use mathlib.Core.List.{List, ◌++◌}
use lib.Dec.{eqb}
use borrow.Author.Tests.{eqb-true, eq-eqb}
use Rattle.integers.proofs.Tests.{clash, and_both, and_true}
use Rattle.limits.specs.Sizes.{is_size}
use Rattle.text.specs.Decimal.{decimal}
use Rattle.bits.specs.Bits.{packed_length}
use Rattle.pbm.specs.declared.read.Header.{Header}
use Rattle.pbm.specs.declared.read.Header.TheVariants.{Sound, Unsound}
use Rattle.pbm.specs.Pbm.{header}
use Rattle.pbm.specs.Reading.{header_in}
use Rattle.pbm.specs.Theorems.{Headed}
use Rattle.pbm.proofs.Pieces.{header_length, header_few}
use Rattle.pbm.proofs.Headed.{raster_iff, header_sound}
use Rattle.compare.specs.Theorems.{BadHeader, UnequalHeaders}

-- ---- no header, or one
-- what is read as no header starts with none: any would have been read
pub unsound_bad : {f : List ℕ} → header_in f ≡ Unsound → BadHeader f
unsound_bad {f} e columns rows start h =
    let g = (header_sound f columns rows start).1 h in
    absurd (let z : ◌≡◌ {A = ℕ} 0 1 = cc in omega arith)

-- how many bytes the file of a film has that starts with this header
abbrev file_length : Header → ℕ
file_length (Sound columns rows start) = start + rows * packed_length columns
file_length Unsound = 0

module _ {f : List ℕ} {columns rows start columns' rows' start' : ℕ} (h : Headed f columns rows start) (k : Headed f columns' rows' start') where
  -- a text starts with one header only, since it is read in one way
  one_header : Sound columns rows start ≡ Sound columns' rows' start'
  one_header = sym ((header_sound f columns rows start).1 h) ∙ (header_sound f columns' rows' start').1 k

  -- so its sizes are the same however they are found
  one_size : (columns ≡ columns') × (rows ≡ rows')
  one_size = let e = one_header in (cc, cc)

  -- and so is the length of its film's file
  pub one_length : start + rows * packed_length columns ≡ start' + rows' * packed_length columns'
  one_length = ap file_length one_header

-- ---- the sizes of two headers
-- where the test that compares them is passed, both agree
pub sizes_agree : (c r d s : ℕ) → (eqb c d && eqb r s) ≡ true → (c ≡ d) × (r ≡ s)
sizes_agree c r d s e = let b = and_both (eqb c d) (eqb r s) e in (eqb-true c d b.0, eqb-true r s b.1)

-- and where it is not, one of them does not
pub sizes_differ : (c r d s : ℕ) → (eqb c d && eqb r s) ≡ false → ¬ ((c ≡ d) × (r ≡ s))
sizes_differ c r d s e p = clash (and_true (eqb c d) (eqb r s) (eq-eqb c d p.0) (eq-eqb r s p.1)) e

module _ {f g : List ℕ} {c r n d s m : ℕ} (h : Headed f c r n) (k : Headed g d s m) where
  -- headers of one size are the same text, and so of one length
  pub same_header : (c ≡ d) × (r ≡ s) → Headed g c r n
  same_header e = record { rest = k.rest; text = k.text ∙ ap₂ (λ (x y : ℕ). header x y ++ k.rest) (sym e.0) (sym e.1); sizes = h.sizes; long = h.long }

  -- where they differ, here are two headers of unequal sizes
  pub heads_unequal : ¬ ((c ≡ d) × (r ≡ s)) → UnequalHeaders f g
  heads_unequal e = (c, (r, (n, (d, (s, (m, (h, (k, e))))))))

  -- where they agree there are no such two, each text having one header only
  pub heads_equal : (c ≡ d) × (r ≡ s) → ¬ UnequalHeaders f g
  heads_equal e u =
      let heads = u.1.1.1.1.1.1 in
      let p = one_size h heads.0 in
      let q = one_size k heads.1.0 in
      heads.1.1 (sym p.0 ∙ e.0 ∙ q.0, sym p.1 ∙ e.1 ∙ q.1)

-- ---- what the place of a film's last byte is told from
module _ {f : List ℕ} {columns rows start : ℕ} (h : Headed f columns rows start) where
  -- the sizes of a header are those of a raster, which decides how many bytes the rows fill
  pub is_raster : (is_size columns && is_size rows) ≡ true
  is_raster = (raster_iff columns rows).1 h.sizes

  -- their digits are five at most, so that the header has no more bytes than are looked at
  pub start_few : start ≤ 15
  start_few = let s = and_both (is_size columns) (is_size rows) is_raster in omega (arith, h.long, header_few columns rows s.0 s.1)

  -- it is not empty, so that there is a byte before the end of any film
  pub start_some : 1 ≤ start
  start_some = omega (arith, h.long, header_length (decimal columns) (decimal rows))
