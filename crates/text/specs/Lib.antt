-- Ascii: a text as bytes. Decimal: a number's digits. Put: a piece of text in a buffer. Theorems: what digits read as.
pub mod Ascii
pub mod Decimal
pub mod Put
pub mod Theorems
