-- In this order.
--   Next      what a byte makes of what has been read: the table that the code follows
--   Scanner   one byte, a chunk, a whole file
pub mod Next
pub mod Scanner
