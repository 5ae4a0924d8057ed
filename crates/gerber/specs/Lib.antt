-- Reader: a command, a byte, a chunk, the end of the file.
pub mod Reader
