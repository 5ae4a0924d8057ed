-- Host: what the two functions promise. Call: the same of what they are made of, inside the crate. Theorems: what the bytes of runs are, by value.
pub mod Host
pub mod Call
pub mod Theorems
