-- What is proved of the limits.
--   Sizes      a size as a test and as facts
--   Rows       a row as a number of 64 bits
--   Verdicts   what checks answer, one after the other
--   Exactly    what they answer, held against the table of refusals
pub mod Sizes
pub mod Rows
pub mod Verdicts
pub mod Exactly
