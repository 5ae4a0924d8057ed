-- The demands, in their order.
--   Reports   the calls that report a row's runs, and the runs that each reports
--   Packs     the calls that pack a row
--   Bands     the calls for a band of rows, and bands one after the other
--   Demand1   refusals
--   Demand2   the black pixels
--   Demand3   line weight
pub mod Reports
pub mod Packs
pub mod Bands
pub mod Demand1
pub mod Demand2
pub mod Demand3
