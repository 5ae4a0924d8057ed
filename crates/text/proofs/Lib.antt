-- Decimal: the digits that `io::decimal` writes. Digits: what digits read as. Pieces: pieces of text, one behind the other. Theorems: the claim.
pub mod Decimal
pub mod Digits
pub mod Pieces
pub mod Theorems
