-- A film of several strokes.
--   Strokes    the strokes, and what is checked of each
--   Film       the film's rows and its file
--   Theorems   what is promised of them, in document 01's words
--   Cases      document 01's whole file
pub mod Strokes
pub mod Film
pub mod Theorems
pub mod Cases
