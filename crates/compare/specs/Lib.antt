-- Document 02, W1, in the order of its sentences.
--   Refusals   what is refused, in which order, and by which name
--   Report     the report of two whole files
--   Step       a report made row by row in a lent buffer
--   Run        what the program reads, asks and writes
--   Theorems   what is promised of a report, by places and values
pub mod Refusals
pub mod Report
pub mod Step
pub mod Run
pub mod Theorems
