-- What every function for C is given and answers.
--   Outcome  the setting and the path's bytes among the checks, and the answer in one number
--   Read     how many bytes the code reads as a path
--   Fit      which answers fit that number
pub mod Outcome
pub mod Read
pub mod Fit
