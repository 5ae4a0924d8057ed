-- What is proved of the records layer: the theorems, then the code's facts in the order of its work.
--   Theorems the theorems that the promises name
--   Numbers  records and their numbers, and the records of a flat list of runs
--   Cases    a plain call's checks and runs, whatever list it is lent; it has at most 4,096 runs
--   Room     the numbers that are asked of the plain call, and that its answer is at the front of their list
--   Plain    the records written from that answer are those that the call promises
--   Written  what the loop of `write` leaves after each turn, and that it is the first records of a plain list
pub mod Theorems
pub mod Numbers
pub mod Cases
pub mod Room
pub mod Plain
pub mod Written
