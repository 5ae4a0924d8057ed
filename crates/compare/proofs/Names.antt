-- What each refusal is called: RefusedByName of specs/Theorems.antt, case by case.
use mathlib.Core.Path.{refl}
use Rattle.text.specs.Ascii.{ascii}
use Rattle.compare.specs.declared.Refusal.TheVariants.{BadHeader1, BadHeader2, UnequalSizes, ShortData1, ShortData2, BytesAfter1, BytesAfter2}
use Rattle.compare.specs.Theorems.{RefusedByName}

pub refused_by_name : RefusedByName
unfolding ascii
refused_by_name BadHeader1 = refl
refused_by_name BadHeader2 = refl
refused_by_name UnequalSizes = refl
refused_by_name ShortData1 = refl
refused_by_name ShortData2 = refl
refused_by_name BytesAfter1 = refl
refused_by_name BytesAfter2 = refl
