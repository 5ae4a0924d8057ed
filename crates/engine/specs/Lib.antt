-- Engine: starting, and one row after another. Theorems: it and the row answer are equal.
pub mod Engine
pub mod Theorems
