-- What the tool reads, and what it writes.
pub mod Request
pub mod Answer
