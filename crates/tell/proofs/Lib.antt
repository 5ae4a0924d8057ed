-- Seen: a text looked through for the error's number.
pub mod Seen
