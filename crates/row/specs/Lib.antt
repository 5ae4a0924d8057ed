-- In the order of document 01; then the cases that it marks, and what the code knows in between. What is proved of the answers is in the crate demands.
pub mod Answer
pub mod Calls
pub mod Cases
pub mod Pass
pub mod Together
