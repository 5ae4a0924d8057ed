-- What is proved of the demands.
--   Heard      the C functions' one number, taken apart
--   Refusals   demand 1
--   Reported   what each call reports are the runs of the definition
--   Weight     demand 3
--   Packed     what each call packs
--   Bands      what calls for bands leave
--   BandWeight demand 3 over the bits of bands
--   Theorems   the claims of specs/, each under its name there
pub mod Heard
pub mod Refusals
pub mod Reported
pub mod Weight
pub mod Packed
pub mod Bands
pub mod BandWeight
pub mod Theorems
