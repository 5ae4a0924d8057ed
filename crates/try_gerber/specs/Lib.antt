-- What the words of the command line say, and how much is lent.
pub mod Words
