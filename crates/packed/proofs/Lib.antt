-- What is proved of a packed row: what an answer 0 says, then the code's facts in the order of its work.
--   Stored, Bits           an answer 0 holds the bytes of the definition, and their bits are the black pixels
--   Drawn                  a row laid over the cleared bytes
--   Calls                  a call by what the look-up and the checks answer
pub mod Stored
pub mod Bits
pub mod Drawn
pub mod Calls
