-- What is proved of an uncut extent, bottom up.
--   Reaching   a call by what its checks answer; and one that is answered 0: what it has passed, and its extent
--   Refusals   what is refused, held against the table of refusals
--   Pixels     the extent over pixels, and how far it can reach
--   Moved      a path that is moved by whole pixels: so is its extent
--   Compared   the row answer cuts it, and the engine has it too
--   Theorems   the claims of specs/Theorems.antt, each under its name there
pub mod Reaching
pub mod Refusals
pub mod Pixels
pub mod Moved
pub mod Compared
pub mod Theorems
