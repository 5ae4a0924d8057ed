-- What is proved of a whole file as a drawing, in this order.
--   Noted      what the lists hold where every stroke has a place
--   Ends       the open stroke begins where the last stroke given ends
--   Long       a stroke has two points or more
--   Paths      the path of each stroke, from where they start
--   Whole      a file's lists: no stroke is lost, and they hold what W4's sentences give
--   Answer     the answer at the file's end
--   Taken      no stroke of them is refused
--   Started    where the scanner's last command starts
--   Told       the mark that a refusal is told with
pub mod Noted
pub mod Ends
pub mod Long
pub mod Paths
pub mod Whole
pub mod Answer
pub mod Taken
pub mod Started
pub mod Told
