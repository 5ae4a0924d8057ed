-- In the order of document 01. What is proved of the answers is in the crate demands.
pub mod Packed
