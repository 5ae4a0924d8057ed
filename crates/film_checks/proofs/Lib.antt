-- Alike: the checks of a stroke without a table are those of its row call.
-- Spans: where the entries of a stroke stand.
pub mod Alike
pub mod Spans
