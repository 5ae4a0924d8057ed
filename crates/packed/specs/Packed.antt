-- Document 01: "It also packs a row for a raw PBM file". What the calls for a packed row answer and leave, for every input.
use Rattle.std.specs.Prelude.{ℕ, Bool, List, ◌++◌, length, drop, ℤ, pos}
use Rattle.plane.specs.Point.{Pt}
use Rattle.bits.specs.Bits.{packed_length, packed}
use Rattle.limits.specs.declared.Verdict.{Verdict}
use Rattle.limits.specs.declared.Verdict.TheVariants.{Passed}
use Rattle.checks.specs.Checks.{call_verdict}
use Rattle.checks.specs.Answer.{Result, Offer, given}
use Rattle.stroke.specs.Sweep.{path_points}
use Rattle.stroke.specs.Runs.{black_at}
use Rattle.aperture.specs.declared.Table.{Table}
use Rattle.aperture.specs.Table.{looked, looked_verdict, held_corners}

-- a packed row at the start of a buffer: it "leaves the rest of its buffer"
abbrev pub packed_atop : (ℕ → Bool) → ℕ → List ℕ → List ℕ
packed_atop f columns b = packed f columns ++ drop (packed_length columns) b

-- the same of the columns that a path blackens in row j, for the corners of a pen
abbrev pub packed_over : List Pt → List ℤ → ℕ → ℕ → List ℕ → List ℕ
packed_over cs path columns j b = packed_atop (λ x. black_at cs (path_points path) (pos j) (pos x)) columns b

-- what a call offers: 7 is "a packed row longer than its buffer"
abbrev pub packed_offer : List Pt → List ℤ → ℕ → ℕ → List ℕ → Offer ℕ
packed_offer cs path columns j b = record { count = packed_length columns; space = length b; after = packed_over cs path columns j b; before = b }

-- the packed row of a path for the corners of a pen, where the checks answer v
abbrev pub packed_given : Verdict → List Pt → List ℤ → ℕ → ℕ → List ℕ → Result ℕ
packed_given v cs path columns j b = given v (packed_offer cs path columns j b)

-- the call for a pen that is handed over
unfoldable pub pack_result : List Pt → List ℤ → ℕ → ℕ → ℕ → List ℕ → Result ℕ
pack_result cs path columns rows j b = packed_given (call_verdict Passed path columns rows j) cs path columns j b

-- the call for an aperture: "Row calls check in the order 6, 2, 4, 5, 3, 7"
unfoldable pub packed_call : Table → ℕ → List ℤ → ℕ → ℕ → ℕ → List ℕ → Result ℕ
packed_call t n path columns rows j b = packed_given (call_verdict (looked_verdict (looked t n)) path columns rows j) (held_corners t n) path columns j b
