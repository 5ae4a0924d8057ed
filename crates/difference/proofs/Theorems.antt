-- The claims of specs/Theorems.antt, each under its name there in small letters.
use mathlib.Core.Path.{ap₂}
use mathlib.Core.Bool.{xor}
use Rattle.bits.specs.Bits.{bit_at}
use Rattle.difference.specs.Apart.{apart}
use Rattle.difference.specs.Theorems.{OneBlack, DifferingNumber, OnesNumber, SamePixels, OverItself, FewDiffer}
use Rattle.difference.proofs.Counting.{count_ext, count_clear, count_le, count_number}
use Rattle.difference.proofs.OneByte.{all_small, xor_one, xor_same}
use Rattle.difference.proofs.AllOnes.{row_ones_lem}

pub one_black : OneBlack
one_black a b x = xor_one (bit_at a x) (bit_at b x)

pub differing_number : DifferingNumber
differing_number a b columns = count_number (apart a b) columns

pub ones_number : OnesNumber
ones_number a b ha hb columns = row_ones_lem a b (all_small a ha) (all_small b hb) columns

pub same_pixels : SamePixels
same_pixels a a' b b' columns e f = count_ext (apart a b) (apart a' b') columns (λ x l. ap₂ xor (e x l) (f x l))

pub over_itself : OverItself
over_itself a columns = count_clear (apart a a) columns (λ x l. xor_same (bit_at a x))

pub few_differ : FewDiffer
few_differ a b columns = count_le (apart a b) columns
