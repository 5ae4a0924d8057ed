-- What is proved of the segments of a path.
--   Ends  where each of them starts and ends among the path's entries
pub mod Ends
