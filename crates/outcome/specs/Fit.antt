-- Which answers fit the one number, and what fits of any other. Every call's answer fits: `given_fit` of proofs/Fits.
use Rattle.std.specs.Prelude.{◌%◌, ◌^◌, ◌<◌}
use Rattle.checks.specs.declared.Answer.{Answer}

-- the three numbers fit their places in the one
pub record Fit (a : Answer) : Type 0 where
  pub refusal : a.refusal < 256
  pub place : a.place < 2 ^ 24
  pub count : a.count < 2 ^ 32

-- the lowest bits of each
abbrev pub fitted : Answer → Answer
fitted a = record { refusal = a.refusal % 256; place = a.place % 2 ^ 24; count = a.count % 2 ^ 32 }
