-- Bounds: from the tests to bounds on the numbers. Cases: what the definitions give in each case of their tests. PerRow: what a row adds. Carried: an edge that is carried stands on its line in each
-- row. Theorems: what specs/Theorems states.
pub mod Bounds
pub mod Cases
pub mod PerRow
pub mod Carried
pub mod Theorems
