-- Theorems has the claims of specs/Theorems.antt. The others in the order in which they are used:
--   Slope, Naturals, NearRoot               arithmetic: directions, naturals as whole numbers, the near root
--   Chain, Invariant, Pieces, Cuts, Rounds  what holds at every corner that is not yet put out, and that each round keeps it
--   Progress, Sizes                         every moment: counts, sizes, the end
--   Quarters, Ranges                        the quarter is a chain; where its corners lie
--   Nearest, Rules                          the quarter is what the rules of specs/Steps put out
--   Unique, Lines                           and they put out nothing else; what they come to lies on its lines
--   Halving, Tries                          the search for the near root by halves, and how many values it tries
--   Most, Depth, Laid                       for the code (crate cutting): bounds of machine numbers, how many edges come after a corner, arrays
--   Cornered                                the answer, by the check of the setting
pub mod Slope
pub mod Naturals
pub mod NearRoot
pub mod Chain
pub mod Invariant
pub mod Pieces
pub mod Cuts
pub mod Rounds
pub mod Progress
pub mod Sizes
pub mod Quarters
pub mod Ranges
pub mod Most
pub mod Nearest
pub mod Rules
pub mod Unique
pub mod Lines
pub mod Halving
pub mod Tries
pub mod Theorems
pub mod Depth
pub mod Laid
pub mod Cornered
