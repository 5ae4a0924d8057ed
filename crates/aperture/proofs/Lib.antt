-- Numbers    what the test of an aperture number says
-- Answers    what defining, removing and looking up answer, by cases
-- Held       what a call that needs a pen finds
-- Delivered  that a table holds what statements about calls ask of it
-- Refusals   the claims of specs/Refusals.antt
-- Theorems   the claims of specs/Reachable.antt, each under its name there, and what the next crate needs of a place that is looked up
pub mod Numbers
pub mod Answers
pub mod Held
pub mod Theorems
pub mod Refusals
pub mod Delivered
