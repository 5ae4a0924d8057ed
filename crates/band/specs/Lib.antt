-- Band: what the call for a band promises. Rows: the same of what it is made of, inside the crate. Refuses: what it refuses, in words. Theorems: what a band is,
-- by its rows, by its parts and by its pixels, and what is checked of it.
pub mod Band
pub mod Rows
pub mod Refuses
pub mod Theorems
