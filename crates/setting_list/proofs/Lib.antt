-- What is proved of the settings.
--   Defined    the table, one setting more at a time
--   Made       what the table holds
--   Held       the checks without a table
pub mod Defined
pub mod Made
pub mod Held
