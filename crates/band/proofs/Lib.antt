-- What is proved of a band, in the order of the code's work; then what it is.
--   Rules                     what is checked of a band
--   PastRows                  the first row past a height
--   Layers, OneRow            some rows of a band laid over its bytes, one after the other; one row is a span
--   Carried, Swept            the rows of a segment between its flanks, from row to row
--   Reached, Built            a row that a path does not reach; the pen that was built, by its arrays
--   Call                      the call by what its checks answer
--   Parts, Seams, OneByOne    columns laid over bytes that stand one after the other; a band that is cut after whole rows; a band by its rows
--   Pixels, Refusals          a band by its pixels; what is checked of it, in words
--   Theorems                  the claims of specs/, each under its name there
pub mod Rules
pub mod PastRows
pub mod Layers
pub mod OneRow
pub mod Carried
pub mod Swept
pub mod Reached
pub mod Built
pub mod Call
pub mod Parts
pub mod Seams
pub mod OneByOne
pub mod Pixels
pub mod Refusals
pub mod Theorems
