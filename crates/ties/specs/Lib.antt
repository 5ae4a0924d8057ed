-- Kept: the rule. Below: the same of heights. Theorems: both a second way, and their laws.
pub mod Kept
pub mod Below
pub mod Theorems
