-- Theorems has the claims of specs/Theorems.antt. The others in the order in which they are used:
--   Convex                             a quarter is convex: its corners are a chain of ever steeper edges
--   Once, Images, Fits, Around, Whole  the whole polygon of a convex quarter satisfies the laws of a pen
--   WalkOrder, EachOnce                the walk around it meets its corners in one order, so that none is listed twice
--   Distances                          a mirror image lies as far from both axes
--   PenLaw                             all that of the pen of a setting
--   Laid, Walk, Opposites              for the code: arrays of points, what stands at each place of the walk around the polygon, and opposites as i8
--   Mirroring                          the loop over that walk
--   Answers                            what building answers, by the test of the setting's limits
pub mod Convex
pub mod Once
pub mod Images
pub mod Fits
pub mod Around
pub mod Whole
pub mod WalkOrder
pub mod EachOnce
pub mod Distances
pub mod PenLaw
pub mod Theorems
pub mod Laid
pub mod Walk
pub mod Opposites
pub mod Mirroring
pub mod Answers
