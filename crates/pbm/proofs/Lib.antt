-- What is proved of a film's form.
--   Pieces     the header, piece by piece, and what is put where it is put
--   Reading    digits and bytes at a place of a text
--   Sound      what the reader finds, by sizes and by the start of the text
--   Headed     it finds a header exactly where the text starts with one
--   Refusals   what is refused
--   Theorems   the claims on the header and on the rows
pub mod Pieces
pub mod Reading
pub mod Sound
pub mod Headed
pub mod Refusals
pub mod Theorems
