-- Document 02, W1: "For each row it also gives the number of differing pixels, and that is the count of ones in the two rows' difference without spare bits."
--   Apart     "the number of differing pixels": the columns in which two packed rows differ, counted
--   RowOnes   "the count of ones in the two rows' difference without spare bits": the same in W1's other words
--   Theorems  that both are one number, and what it is
--   Code      what only the code speaks of: a part of a row, and words of eight bytes
pub mod Apart
pub mod RowOnes
pub mod Theorems
pub mod Code
