-- What is proved of the engine, bottom up.
--   OneSegment   a path of one point or two is one segment
--   Checked      the checks that are passed in one row, asked for another
--   Starting     a start that is answered 0: what it has passed, and its engine
--   Driven       the engine after any number of steps
--   Cut          the columns of a cut are the one run of a row, or none
--   Same         the engine and the row answer are equal
--   Refusals     what a start and a step are refused for, and what a refusal leaves
--   StartCases   a start by what its checks answer
--   StepCases    a step by what its checks answer
--   Theorems     the claims of specs/Theorems.antt, each under its name there
pub mod OneSegment
pub mod Checked
pub mod Starting
pub mod Driven
pub mod Cut
pub mod Same
pub mod Refusals
pub mod StartCases
pub mod StepCases
pub mod Theorems
