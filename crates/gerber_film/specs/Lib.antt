-- In this order.
--   File       a file read whole into lent lists, and the drawing of its strokes
--   Theorems   no stroke is lost, the answer and the strokes are W4's, and none of them is refused
--   Places     the line and the column that a refusal is told with
pub mod File
pub mod Theorems
pub mod Places
