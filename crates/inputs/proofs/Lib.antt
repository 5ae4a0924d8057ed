-- Reading: a number read byte by byte. Stream: what is read and written in parts.
pub mod Reading
pub mod Stream
