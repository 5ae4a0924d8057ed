-- Outline: the edges of a sweep. Theorems: what a row between them is.
pub mod Outline
pub mod Theorems
