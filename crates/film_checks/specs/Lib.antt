-- Code: what only the code is asked; the checks of a film are defined in drawing.
pub mod Code
