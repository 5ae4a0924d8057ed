-- What is proved of an outline, bottom up.
--   Within              the pen's corners at the ends of a segment are within all its sides
--   AtEnds, AlongPath   the edges of the outline: the pen's at either end, and the two along the path
--   Between             where an edge meets a height, and the sides there, in plain numbers
--   Crossing, Flat      which centres of a row the sides on an edge's part of the sweep allow; and flat sides
--   Spans               spans by their columns
--   Rows, Outside       the rows that the sweep has, and every other row
--   Theorems            the claims of specs/Theorems.antt, each under its name there
pub mod Within
pub mod AtEnds
pub mod AlongPath
pub mod Between
pub mod Crossing
pub mod Flat
pub mod Spans
pub mod Rows
pub mod Outside
pub mod Theorems
