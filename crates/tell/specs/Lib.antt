-- What the message of an error is.
pub mod Message
