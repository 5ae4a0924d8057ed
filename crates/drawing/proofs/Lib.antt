-- What is proved of strokes and bands.
--   Rows       rows one under the other
--   Taken      the strokes, one more at a time
--   Put        the band's length, and its rows
--   Told       which stroke is refused
--   Drawable   what an answer 0 says of the strokes
--   Packed     rows laid over each other
--   Refusals   what is answered of a band
--   Bits       each bit of the band, in the buffer at exit
--   Bands      the film by its bands
--   Dot        document 01's whole file
pub mod Rows
pub mod Taken
pub mod Put
pub mod Told
pub mod Drawable
pub mod Packed
pub mod Refusals
pub mod Bits
pub mod Bands
pub mod Dot
