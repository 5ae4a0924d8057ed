-- What the code rests on, and what is proved of its definitions, in this order.
--   Reading    what all bytes give, noted; and what one call of the reader does to it
--   Chunks     GatherAnyChunks: the chunks change nothing
--   Lengths    the reader leaves the path as long as it was
--   Kept       GatherKeeps: what was noted stays
pub mod Reading
pub mod Chunks
pub mod Lengths
pub mod Kept
