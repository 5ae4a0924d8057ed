-- Lines and columns.
--   Places   byte by byte
--   Parts    a chunk in two parts
--   Kept     chunk by chunk: the claims
pub mod Places
pub mod Parts
pub mod Kept
