-- The settings of a drawing, a list of numbers.
--   Settings   what the settings are, and the table of them
--   Theorems   what is promised of them, in document 01's words
pub mod Settings
pub mod Theorems
