-- Bits: a row as bytes, and what is laid over it. Theorems: which columns are black by them.
pub mod Bits
pub mod Theorems
