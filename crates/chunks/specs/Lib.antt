-- Machine: a machine, a call, all symbols at once, calls one after the other. Theorems: the chunks change nothing.
pub mod Machine
pub mod Theorems
