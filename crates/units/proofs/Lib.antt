-- Rounded: in_units by its tests. Theorems: what specs/Theorems states.
mod Rounded
pub mod Theorems
