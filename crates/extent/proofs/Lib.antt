-- What the functions' proofs cite, bottom up.
--   FromRow                            heights counted from the row
--   Fractions, Narrow                  limits kept as fractions; one side's rule
--   AnyOrder, Round, Going             sides in any order; the edges one after the other
--   Read, Answered                     the greatest over the corners; the three answers
pub mod FromRow
pub mod Fractions
pub mod Narrow
pub mod AnyOrder
pub mod Read
pub mod Round
pub mod Going
pub mod Answered
