-- What the code asks:
--   LastByte    where a film's last byte stands
--   Headers     what two sound headers say
--   Steps       one row of a report
-- What is promised of a report:
--   Heads       a text has no header or one
--   FileEnds    how a film's file ends
--   Exactly     each refusal exactly when it applies
--   Names       what each refusal is called
--   Taken       no refusal: two films of one size
--   Told        what is told of them
--   FilmLines   which lines that are, and their order
--   Places      a row's bits by places of the file
--   EachLine    each pixel and each row's number
--   AllLines    the order, and what a report depends on
--   Numbers     a row's number is that of its pixel lines
--   Drawn       what the drawer writes is a film
--   Fed         rows fed one after the other
--   Runs        the program's calls give the report
pub mod LastByte
pub mod Headers
pub mod Steps
pub mod Heads
pub mod FileEnds
pub mod Exactly
pub mod Names
pub mod Taken
pub mod Told
pub mod FilmLines
pub mod Places
pub mod EachLine
pub mod AllLines
pub mod Numbers
pub mod Drawn
pub mod Fed
pub mod Runs
