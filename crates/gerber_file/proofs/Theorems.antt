-- GivenPass: by ExactStrokes, since every file is read in some way (crate language, EachFile).
use Rattle.language.proofs.Theorems.{each_file}
use Rattle.gerber_file.specs.Theorems.{GivenPass}
use Rattle.gerber_file.proofs.Exact.{exact_strokes}
use Rattle.gerber_file.proofs.Passing.{pass_if}

pub given_pass : GivenPass
given_pass = pass_if each_file exact_strokes
