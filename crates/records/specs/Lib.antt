-- The call, then what is proved of it.
pub mod Records
pub mod Theorems
