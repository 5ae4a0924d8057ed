-- In the order of document 01.
--   Sizes     "Units and sizes": the numbers that limit a setting, a path, a raster, the table and a pen
--   Refusal   "Refusal numbers": the table, for every call, and what a check answers
--   Exactly   the same table once more, in its own words: "Given exactly when"
pub mod Sizes
pub mod Refusal
pub mod Exactly
