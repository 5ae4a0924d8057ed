-- What is proved of the heights that a path reaches.
--   Pass        one pass over the y's of a path
--   Heights     no y is less than the least, and none greater than the greatest; both are small
--   Reached     a row under or over all of a stroke has nothing black
--   Cornerless  a pen without corners blackens nothing
pub mod Pass
pub mod Heights
pub mod Reached
pub mod Cornerless
