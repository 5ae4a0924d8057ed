-- In the order of document 01; then what is proved.
pub mod Sweep
pub mod Sides
pub mod Black
pub mod Extent
pub mod Runs
pub mod Weight
pub mod Beside
pub mod Theorems
