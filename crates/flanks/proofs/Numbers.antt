-- The numbers that the functions count with, and what they are put together to: equal parts make equal edges and flanks.
use mathlib.Core.Path.{◌≡◌, ◌∙◌}
use Prim.Native.Nat.{ℕ, ◌^◌, ◌<◌}
use native.Mathlib.Omega.{arith}
use lib.Dec.{T, ltb}
use lib.IntN.{ℤ, pos, ◌*ℤ◌}
use lib.Signed.{mag}
use mir.Syntax.{w16, w32, w64}
use mir.Val.{Fits, SFits, hbits, to_z, of_z}
use mir.Facts.{to_z-of_z}
use Rattle.integers.specs.Bound.{Abs}
use Rattle.integers.proofs.Machine.{Is, known, along, num, par, of_nat, cast, mul}
use Rattle.integers.proofs.Words.{bits, ◌⊗◌}
use Rattle.edge.specs.declared.Edge.{Edge}
use Rattle.edge.specs.Edge.{placed}
use Rattle.flanks.specs.declared.Ends.{Ends}
use Rattle.flanks.specs.declared.Flank.{Flank}
use Rattle.flanks.specs.declared.Flanks.{Flanks}

-- ---- numbers
-- a number of 16 bits
pub number16 : {j : ℕ} → Fits w16 j → Is w64 (pos j) j 65536
number16 {j} f = of_nat j (omega (arith, f.fits)) tt

-- a number of 32 bits, made wide
abbrev pub wide : ℤ → ℕ
wide z = bits (to_z w32 (of_z w32 z))

pub number32 : {z : ℤ} → SFits w32 z → Is w64 z (wide z) (2 ^ 31)
number32 f = cast (par f) w64 tt

-- what a call answered: its bits read as what its contract says, and with a bound that it says too they are that number's
pub reads_as_lem : {r z : ℤ} → mag r < 2 ^ 63 → r ≡ z → to_z w64 (bits r) ≡ z
reads_as_lem {r} h e = to_z-of_z {w = w64} {z = r} (record { sfits = h }) ∙ e

pub answered : {r z : ℤ} {n : ℕ} → r ≡ z → Abs r n → T (ltb n (2 ^ hbits w64)) → Is w64 z (bits r) n
answered e h t = along e (known h t)

-- a coordinate of the pen, in half pixels, in sixteenths of one
pub sixteenths : {z : ℤ} {m : ℕ} → Is w64 z m 128 → Is w64 (pos 8 *ℤ z) (bits (pos 8) ⊗ m) 1024
sixteenths p = mul (num (pos 8) tt) p tt

-- ---- edges and flanks: what a call was told reads as the number that is meant, and so what it answers is what is meant
pub same_placed : {px px' py py' qx qx' qy qy' h h' : ℤ} → px ≡ px' → py ≡ py' → qx ≡ qx' → qy ≡ qy' → h ≡ h' → placed px py qx qy h ≡ placed px' py' qx' qy' h'
same_placed a b c d e = rw (a, b, c, d, e)

abbrev pub flank : Edge → ℤ → ℕ → ℕ → Flank
flank edge top corner tangent = record { edge = edge; top = top; corner = corner; tangent = tangent }

pub same_flank : {edge edge' : Edge} {top top' : ℤ} {corner corner' tangent : ℕ} → edge ≡ edge' → top ≡ top' → corner ≡ corner' → flank edge top corner tangent ≡ flank edge' top' corner' tangent
same_flank a b c = rw (a, b, c)

abbrev pub flanks : Ends → ℤ → ℤ → Flank → Flank → Flanks
flanks ends low high left right = record { ends = ends; low = low; high = high; left = left; right = right }

pub same_flanks : {ends : Ends} {low low' high high' : ℤ} {left left' right right' : Flank} → low ≡ low' → high ≡ high' → left ≡ left' → right ≡ right' →
    flanks ends low high left right ≡ flanks ends low' high' left' right'
same_flanks a b c d = rw (a, b, c, d)
