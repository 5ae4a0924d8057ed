-- What the proof of the rounds cites.
--   Stack    the stack of edges at the end of an array
--   Stored   the quarter's arrays with a corner more
pub mod Stack
pub mod Stored
pub mod Rounds
