-- Document 02, W1: the lines that tell where two packed rows differ.
--   Lines      the lines of a report, and their text
--   Rows       the lines of a row
--   Put        their text in a lent buffer
--   Held       what only the code is asked
--   Theorems   what the lines of a row are
pub mod Lines
pub mod Rows
pub mod Put
pub mod Held
pub mod Theorems
