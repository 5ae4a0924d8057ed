-- Units: nanometres in units. Theorems: the same a second way.
pub mod Units
pub mod Theorems
