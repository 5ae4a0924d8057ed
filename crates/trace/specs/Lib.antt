-- Trace: where points stand, what is checked of them, what is written.
pub mod Trace
