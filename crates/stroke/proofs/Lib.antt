-- What is proved of a stroke, bottom up.
--   Segments                           the points of a path and its segments, by their place
--   Lists                              all and some elements of a list
--   Corners, Support, BothWays         a pen: its corners are a cycle, it reaches no further than they do, and it has edges that rise and edges that fall
--   Sides, Inside, Greatest, Sweep     the sides of a segment, and theorem 1: in the sweep exactly when within every side
--   Black                              theorem 2: black exactly when every side allows it, which the test decides
--   Enlarged, Little, Beside           theorem 2b: and exactly when the point a little left of it, and by far less below, is in the sweep
--   Sideways, Shifted                  theorems 2c and 2d: how far sideways; and moved together with its segment
--   Reach, Limits, Columns, Path       theorem 3: the black columns of a row are the extent; and black for a whole path
--   Apart, Runs                        lists of runs that are apart, and theorem 4: the computed runs are the longest, which are unique
--   Totals                             what the runs of several rows hold together, and in how many rows they cover a column
--   Window                             how many pixels the strip along a direction has, and the band along a level path
--   Furthest, NearEdge, Rising         the black pixels of a middle row are those of the strip
--   Level                              the black pixels of a middle column of a level path are those of the band
--   WeightTheorems, Answers            theorems 4 to 7; and line weight over the runs of row answers
--   Theorems                           all claims of specs/Theorems.antt, each under its name there
pub mod Segments
pub mod Lists
pub mod Corners
pub mod Support
pub mod BothWays
pub mod Sides
pub mod Inside
pub mod Greatest
pub mod Sweep
pub mod Black
pub mod Enlarged
pub mod Little
pub mod Beside
pub mod Sideways
pub mod Shifted
pub mod Reach
pub mod Limits
pub mod Columns
pub mod Path
pub mod Apart
pub mod Runs
pub mod Totals
pub mod Window
pub mod Furthest
pub mod NearEdge
pub mod Rising
pub mod Level
pub mod WeightTheorems
pub mod Answers
pub mod Theorems
