-- In the order of document 01; then what is proved.
--   NearRoot, Cutting   the near root, and steps 1 to 5 as definitions that compute: the quarter
--   Steps               the same steps as rules, to hold against document 01's words: they stand by themselves, over whole numbers, y upwards
--   Answer              the quarter as the code's arrays hold it
--   Moment              the quarter on the way
--   Tries               the search for the near root by halves (document 02, W3)
--   Theorems            what is proved
pub mod NearRoot
pub mod Cutting
pub mod Steps
pub mod Answer
pub mod Moment
pub mod Tries
pub mod Theorems
