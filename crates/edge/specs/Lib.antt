-- Edge: an edge and its numbers. Theorems: what is proved of it.
pub mod Edge
pub mod Theorems
