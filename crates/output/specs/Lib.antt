-- The bands in their order, and what is proved of them.
pub mod Bands
pub mod Theorems
