-- In this order.
--   Gather     what is noted of strokes, of a chunk and at the end of the file
--   Theorems   the chunks change nothing, and what was noted stays
pub mod Gather
pub mod Theorems
