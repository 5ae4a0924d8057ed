-- The raw PBM form of document 01; reading its header; then what both are, by places and values.
pub mod Pbm
pub mod Reading
pub mod Theorems
