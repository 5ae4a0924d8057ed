-- A host's calls over a file, one after the other: each is lent some first part of the bytes that are left, and the path as the call before left it.
use Rattle.std.specs.Prelude.{ℕ, ◌+◌, ◌≡◌, List, [], ◌∷◌, ◌++◌, drop, length, ℤ}
use Rattle.std.proofs.Math.Option.{Option, none, some}
use Rattle.aperture.specs.declared.Table.{Table}
use Rattle.chunks.specs.Machine as chunks·
use Rattle.gerber.specs.declared.Reader.{Reader}
use Rattle.gerber.specs.declared.Given.{Given}
use Rattle.gerber.specs.declared.Given.TheVariants as given·
use Rattle.gerber.specs.Reader.{Stroke, Fault, feeds, finished}

-- a stroke given, and the file's bytes used up to there
abbrev pub Handed : Type 0  -- a type, and no claim
Handed = chunks·.Given Stroke

-- from a reader that has read k bytes of the file, with the path p, over the bytes l: the strokes given, the refusal, if any, and the reader and the path then
pub data Calls (t : Table) : ℕ → Reader → List ℤ → List ℕ → List Handed → Option Fault → Reader → List ℤ → Type 0 where
  no_call : {k : ℕ} {r : Reader} {p : List ℤ} → Calls t k r p [] [] none r p
  more : {k : ℕ} {r u : Reader} {p q : List ℤ} {given : List Handed} {fault : Option Fault} (chunk rest : List ℕ) → (feeds r t chunk p).fed.given ≡ given·.More →
      Calls t (k + length chunk) (feeds r t chunk p).fed.reader (feeds r t chunk p).entries rest given fault u q → Calls t k r p (chunk ++ rest) given fault u q
  stroke : {k : ℕ} {r u : Reader} {p q : List ℤ} {given : List Handed} {fault : Option Fault} {a first n : ℕ} (chunk rest : List ℕ) →
      (feeds r t chunk p).fed.given ≡ given·.Stroke a first n →
      Calls t (k + (feeds r t chunk p).fed.used) (feeds r t chunk p).fed.reader (feeds r t chunk p).entries (drop (feeds r t chunk p).fed.used chunk ++ rest) given fault u q →
      Calls t k r p (chunk ++ rest) (record { thing = record { aperture = a; first = first; length = n }; used = k + (feeds r t chunk p).fed.used } ∷ given) fault u q
  refused : {k : ℕ} {r : Reader} {p : List ℤ} {n place : ℕ} (chunk rest : List ℕ) → (feeds r t chunk p).fed.given ≡ given·.Refused n place →
      Calls t k r p (chunk ++ rest) [] (some (record { number = n; place = place })) (feeds r t chunk p).fed.reader (feeds r t chunk p).entries

-- what is told of the file in the end: the refusal of a call, or what the end of the file gives; none is Done
abbrev pub fault_of : Given → Option Fault
fault_of given·.More = none
fault_of (given·.Stroke a first n) = none
fault_of given·.Done = none
fault_of (given·.Refused n place) = some (record { number = n; place = place })

abbrev pub told : Option Fault → Reader → Option Fault
told (some f) u = some f
told none u = fault_of (finished u).given
