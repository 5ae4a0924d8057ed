-- Walk: up the sides of a pen. Flanks: the edges of a sweep from row to row. Theorems: what they come to.
pub mod Walk
pub mod Flanks
pub mod Theorems
