-- What is proved of the legend.
pub mod Taken
pub mod Reading
