-- Where a byte of the file stands, and what is proved of it.
pub mod Marks
pub mod Theorems
