-- Built: what `build` answers can be encoded. Bytes: the loop over the corners.
pub mod Built
pub mod Bytes
