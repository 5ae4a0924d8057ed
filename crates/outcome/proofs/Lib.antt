-- What is proved of the checks and the answers of every function for C.
--   Verdicts  the checks by the setting and the length of the bytes, and how small the numbers of a refusal are
--   Fits      which answers fit one number
--   Pens      the pen of a setting that was taken
pub mod Verdicts
pub mod Fits
pub mod Pens
