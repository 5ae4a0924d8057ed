-- The claims of specs/Theorems.antt, each under its name there in small letters.
use Rattle.bits.specs.Theorems.{PackedBlack, LaidBlack, BlackenedBlack}
use Rattle.bits.proofs.Bytes.{black_packed}
use Rattle.bits.proofs.Over.{over_black}
use Rattle.bits.proofs.Blackened.{black_blackened}

pub packed_black : PackedBlack
packed_black = black_packed

pub laid_black : LaidBlack
laid_black = over_black

pub blackened_black : BlackenedBlack
blackened_black = black_blackened
