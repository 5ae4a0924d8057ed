-- The line and the column that a refusal of the file is told with. The claim is a type; proofs/Told.antt proves it under its name in small letters.
use Rattle.std.specs.Prelude.{ℕ, ◌<◌, ◌^◌, ◌≡◌, true, List, [], ◌++◌, length, ℤ}
use Rattle.aperture.specs.declared.Table.{Table}
use Rattle.units.specs.Units.{is_unit}
use Rattle.gather.specs.declared.Finished.TheVariants.{Refused}
use Rattle.gather.specs.Gather as gather·
use Rattle.marks.specs.declared.Marks.{Marks}
use Rattle.marks.specs.Marks as marks·
use Rattle.marks.specs.Theorems.{mark_at}

-- a file that is read chunk after chunk, up to a refusal, with a table of apertures. h is what has been gathered, and with each chunk the marks are kept for
-- the start of the scanner's last command
pub data Gathers (t : Table) (unit : ℕ) : List ℕ → gather·.Gathered → Marks → Type 0 where
  begins : (path : List ℤ) (apertures starts : List ℕ) → Gathers t unit [] (record { gathering = gather·.begun unit; path = path; apertures = apertures; starts = starts }) marks·.begun
  goes_on : {bytes : List ℕ} {h : gather·.Gathered} {m : Marks} → Gathers t unit bytes h m → h.gathering.reader.refusal ≡ 0 → (chunk : List ℕ) →
      Gathers t unit (bytes ++ chunk) (gather·.goes_on t h chunk) (marks·.advanced m chunk (gather·.goes_on t h chunk).gathering.reader.scanner.start)

-- whatever is refused at the file's end is told with the mark of its place in the file
abbrev pub PlaceTold : Type 0
PlaceTold =
    (t : Table) (unit : ℕ) → is_unit unit ≡ true → (bytes : List ℕ) (h : gather·.Gathered) (m : Marks) → Gathers t unit bytes h m → length bytes < 2 ^ 64 →
    (number place : ℕ) → (gather·.finishing h.gathering h.starts).answer ≡ Refused number place → marks·.mark_of m place ≡ mark_at bytes place
