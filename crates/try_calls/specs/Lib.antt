-- What the tool reads, and what it lends.
pub mod Command
pub mod Pattern
