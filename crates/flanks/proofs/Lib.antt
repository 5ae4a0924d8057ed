-- What is proved of the flanks, bottom up.
--   Walks, Numbers, Cases     what the functions' proofs cite: the definitions' steps, and numbers as the machine has them
--   Stops, Furthest, Sides    where a walk stops; the corner that a tangent takes; the corners of a side and the edges between them
--   Stands                    a flank that stands in a row: on an edge of the outline, carried there
--   Turns, Climbs, Rows       from edge to edge, from row to row, in every row
--   OfPen, Bound              what holds for a pen with the laws: the columns between the flanks are the extent
--   Counts, Cuts              the columns cut to the raster
--   Theorems                  the claims of specs/Theorems.antt, each under its name there
pub mod Walks
pub mod Numbers
pub mod Cases
pub mod Stops
pub mod Furthest
pub mod Sides
pub mod Stands
pub mod Turns
pub mod Climbs
pub mod Rows
pub mod OfPen
pub mod Bound
pub mod Counts
pub mod Cuts
pub mod Theorems
