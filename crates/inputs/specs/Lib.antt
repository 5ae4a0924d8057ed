pub mod Number
pub mod Stream
