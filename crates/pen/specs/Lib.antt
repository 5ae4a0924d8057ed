-- In the order of document 01; then what is proved.
--   Polygon         the whole polygon of a quarter
--   Answer          the pen as the code's arrays hold it, or the refusal
--   Mirrored        the arrays on the way to the whole polygon
--   Theorems        what is proved
pub mod Polygon
pub mod Answer
pub mod Mirrored
pub mod Theorems
