-- The answer; then what the code's structs hold.
pub mod Answer
pub mod Held
