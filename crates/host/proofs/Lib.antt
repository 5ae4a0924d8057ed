-- What is proved of the host's two functions.
--   Words     the bytes of a list of runs
--   Outcomes  a row's answer as the host is told it
--   Missed    a row that the path does not reach is that of a pen without corners
--   Settings  the setting of a call: refused, or the pen that is built is its own
--   Theorems  what the bytes of runs are, by value
pub mod Words
pub mod Outcomes
pub mod Missed
pub mod Settings
pub mod Theorems
