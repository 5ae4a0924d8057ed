-- Code: what only the code is asked; a film and its bands are defined in drawing.
pub mod Code
