-- What is proved of the host's function for a band.
--   Fits      a band's answer fits one number
--   Verdicts  the checks of a call that come before the path is read
pub mod Fits
pub mod Verdicts
