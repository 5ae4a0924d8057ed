-- In this order.
--   Strokes   the strokes of a file a second way, from what its commands say
--   Calls     a host's calls over a file
--   Theorems  what W4 promises of them
pub mod Strokes
pub mod Calls
pub mod Theorems
