-- The text of a row in a buffer. Whatever is put behind what stands there is put at once with it (text), so that each function only says which columns it
-- puts, and a caller joins neighbouring columns.
--   Texts      how long lines are, and the text of neighbouring columns
--   Pieces     a line put piece by piece
--   Columns    columns put behind others, and columns that have no lines
--   Whole      a whole row
--   Ready      a row that is there, and one that is not
--   Orders     lists put together, and lines in order
--   Pixels     the pixel lines of a row
--   Entries    a row's number is that of its pixel lines
--   Theorems   the other claims
pub mod Texts
pub mod Pieces
pub mod Columns
pub mod Whole
pub mod Ready
pub mod Orders
pub mod Pixels
pub mod Entries
pub mod Theorems
