-- What is proved of the cuts of a row, in the order of the code's work.
--   Raster    the cuts of a path's segments lie within the raster, and blacken its columns as the segments do
--   Segments  the segments of a path within document 01's limits
--   Touches   what the cuts come to where none of them has a column, or one has, or two
--   Between   the bounds of the cuts: no column outside them is black
--   Laid      the cuts laid over bytes, one after the other
--   Passed    the loops over the segments, when some are done
--   Together  a row by its cuts, for the callers
pub mod Raster
pub mod Segments
pub mod Touches
pub mod Between
pub mod Laid
pub mod Passed
pub mod Together
