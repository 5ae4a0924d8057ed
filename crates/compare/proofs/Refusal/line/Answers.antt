-- Each refusal has its line.
use Rattle.std.proofs.Common.{ℕ, List, sym, ap}
use Rattle.text.specs.Ascii.{ascii}
use Rattle.compare.specs.declared.Refusal.{Refusal}
use Rattle.compare.specs.Refusals.{name}
use Rattle.compare.proofs.Refusal.line.Goals as goal

abbrev line_of : Refusal → List ℕ
line_of r = ascii (name r)

pub returns-in-BadHeader1 : goal.returns-in-BadHeader1
unfolding ascii
returns-in-BadHeader1 c = ap line_of (sym c.in-BadHeader1.is)

pub returns-in-BadHeader2 : goal.returns-in-BadHeader2
unfolding ascii
returns-in-BadHeader2 c = ap line_of (sym c.in-BadHeader2.is)

pub returns-in-UnequalSizes : goal.returns-in-UnequalSizes
unfolding ascii
returns-in-UnequalSizes c = ap line_of (sym c.in-UnequalSizes.is)

pub returns-in-ShortData1 : goal.returns-in-ShortData1
unfolding ascii
returns-in-ShortData1 c = ap line_of (sym c.in-ShortData1.is)

pub returns-in-ShortData2 : goal.returns-in-ShortData2
unfolding ascii
returns-in-ShortData2 c = ap line_of (sym c.in-ShortData2.is)

pub returns-in-BytesAfter1 : goal.returns-in-BytesAfter1
unfolding ascii
returns-in-BytesAfter1 c = ap line_of (sym c.in-BytesAfter1.is)

pub returns-in-BytesAfter2 : goal.returns-in-BytesAfter2
unfolding ascii
returns-in-BytesAfter2 c = ap line_of (sym c.in-BytesAfter2.is)
