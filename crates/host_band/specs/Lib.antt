-- HostBand: what the function promises. Call: the same of what it is made of, inside the crate.
pub mod HostBand
pub mod Call
