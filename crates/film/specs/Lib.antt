-- The drawing that this program writes, and what is proved of it.
pub mod Legend
pub mod Theorems
