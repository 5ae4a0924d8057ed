-- What is proved of the scanner.
--   Scans   a chunk, byte by byte: where the scanner stops, and how much it reads
pub mod Scans
