-- What only the code needs; what is promised of a film is proved in drawing.
--   Rows       a row one stroke more at a time, and rows laid over rows
--   Layers     a band, one stroke more at a time
pub mod Rows
pub mod Layers
