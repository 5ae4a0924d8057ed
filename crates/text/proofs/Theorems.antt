-- The claim of specs/Theorems.antt, under its name there in small letters.
use Rattle.text.specs.Theorems.{DecimalReads}
use Rattle.text.proofs.Digits.{digits_read}

pub decimal_reads : DecimalReads
decimal_reads n = digits_read n
