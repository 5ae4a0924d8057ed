-- In the order of document 01.
pub mod Table
pub mod Reachable
pub mod Refusals
