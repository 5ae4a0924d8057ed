-- Kept: the rule itself; no other module unfolds it, but for the cases that are computed, and for the one line of Heights. Laws: what follows from its laws. Heights: the rule of
-- heights. Theorems: what specs/Theorems states.
pub mod Kept
pub mod Laws
pub mod Heights
pub mod Theorems
