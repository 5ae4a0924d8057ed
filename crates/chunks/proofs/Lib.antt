-- Theorems: what calls on chunks give is what all symbols give.
pub mod Theorems
