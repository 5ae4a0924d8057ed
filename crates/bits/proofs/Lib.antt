-- What is proved of a row as bits.
--   Tests      of two tests one is passed; the tests of a span
--   Bytes      the bytes of a row: how many, and each bit of each
--   Over       bytes laid over others, byte by byte and bit by bit
--   Blackened  columns laid over bytes: one byte of them, and one lot after the other
--   Masks      the byte of a span
--   SpanBytes  a span from its first byte to its last
--   Shifted    columns laid over the bytes from one of them on
--   Theorems   which columns are black by the bytes
pub mod Tests
pub mod Bytes
pub mod Over
pub mod Blackened
pub mod Masks
pub mod SpanBytes
pub mod Shifted
pub mod Theorems
