-- What is proved of the number of differing pixels. The idea: the ones of the exclusive or of two bytes are their columns that are apart, and the ones of
-- numbers that are put together from bytes are those of the bytes together. So whatever the code counts at a time is the number of differing columns from
-- a first one on, and it only adds such numbers up.
--   Counting    how many numbers below n pass a test
--   OneByte     the columns of one byte that are apart
--   EightBytes  those of a word
--   SameWords   words that are the same
--   Rows        a row by its parts
--   AllOnes     "the count of ones in the two rows' difference without spare bits"
--   Theorems    the claims
pub mod Counting
pub mod OneByte
pub mod EightBytes
pub mod SameWords
pub mod Rows
pub mod AllOnes
pub mod Theorems
