-- Uncut: what is asked and answered. Theorems: what that is over pixels, beside the row answer and beside the engine. Cases: that its bounds are reached.
pub mod Uncut
pub mod Theorems
pub mod Cases
