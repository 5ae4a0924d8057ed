-- The bytes that the tool writes.
pub mod Answer
