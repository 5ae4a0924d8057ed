-- What is proved of a row answer: what an answer 0 says, then the code's facts in the order of its work.
--   Filled                 an answer 0 holds the runs of the definition
--   OneRun                 the runs of a row that one cut or none touches
--   TwoRuns                the runs of a row that two cuts touch
--   Grown, Listed          the runs from left to right: what one column more does to them, and to the list that holds them
--   FewRuns                no more runs than segments
--   BoundedRuns, Pass      the pass over the columns between bounds: where it starts and ends, and what it knows after each
--   Drawn                  a row by its cuts and the room
--   Calls                  a call by what the look-up and the checks answer
pub mod Filled
pub mod OneRun
pub mod TwoRuns
pub mod Grown
pub mod Listed
pub mod FewRuns
pub mod BoundedRuns
pub mod Pass
pub mod Drawn
pub mod Calls
