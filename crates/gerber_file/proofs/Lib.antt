-- What is proved of a Gerber file's strokes, in this order.
--   Keeps      what a command, a byte and a call leave of a reader's refusal and of its scanner
--   Sessions   a host's calls are a session of the machine
--   Chunking   the chunks change nothing
--   Latched    a refusal is for good
--   Entries    the entries of points, and two entries written behind a path's first ones
--   Sim        the reader and the second reading side by side
--   Lines      a line in both: its tests, and what it writes
--   Follows    one command does the same in both
--   Slices     parts of a list that follow one another
--   Bytes      all bytes do the same in both
--   Exact      exactly these strokes, and this refusal
--   Passing    from those: what is given passes a row call's checks
--   Valid      strokes handed out stay valid over a call
--   Theorems   what is given passes, of every file
pub mod Keeps
pub mod Sessions
pub mod Chunking
pub mod Latched
pub mod Entries
pub mod Sim
pub mod Lines
pub mod Follows
pub mod Slices
pub mod Bytes
pub mod Exact
pub mod Passing
pub mod Valid
pub mod Theorems
