-- What W4 promises of a file, over all calls of a host: for every unit, table, path and file of fewer than 2^64 bytes.
use Rattle.std.specs.Prelude.{ℕ, ◌+◌, ◌^◌, ◌≤◌, ◌<◌, ◌≡◌, true, List, [], ◌∷◌, length, take, drop, ℤ, pos}
use Rattle.std.proofs.Math.Option.{Option}
use Rattle.limits.specs.declared.Verdict.TheVariants.{Passed}
use Rattle.checks.specs.Checks.{path_verdict, coordinate_verdict}
use Rattle.aperture.specs.declared.Table.{Table}
use Rattle.aperture.specs.Table.{is_held}
use Rattle.units.specs.Units.{is_unit}
use Rattle.language.specs.Grammar.{first, Placed, Reads, said}
use Rattle.gerber.specs.declared.Reader.{Reader}
use Rattle.gerber.specs.declared.Given.TheVariants as given·
use Rattle.gerber.specs.Reader.{Fault, started, feeds, finished}
use Rattle.gerber_file.specs.Calls.{Handed, Calls, told}
use Rattle.gerber_file.specs.Strokes.{Drawn, Drawing, blank, drawn, flat, twice}

-- ---- "The file arrives in chunks of any length, and the chunking changes no stroke or refusal while the table stays the same."
pub record Same (g₁ g₂ : List Handed) (f₁ f₂ : Option Fault) (u₁ u₂ : Reader) (q₁ q₂ : List ℤ) : Type 0 where
  pub strokes : g₁ ≡ g₂
  pub refusal : f₁ ≡ f₂
  pub reader : u₁ ≡ u₂
  pub path : q₁ ≡ q₂

abbrev pub AnyChunking : Type 0
AnyChunking = (t : Table) (k : ℕ) (r u₁ u₂ : Reader) (p q₁ q₂ : List ℤ) (l : List ℕ) (g₁ g₂ : List Handed) (f₁ f₂ : Option Fault) → r.refusal ≡ 0 →
    Calls t k r p l g₁ f₁ u₁ q₁ → Calls t k r p l g₂ f₂ u₂ q₂ → Same g₁ g₂ f₁ f₂ u₁ u₂ q₁ q₂

-- ---- the strokes and the refusal are those that W4's sentences give for the commands of the file
-- "aperture, first entry, length and bytes used"
abbrev pub handed : Drawn → Handed
handed d = record { thing = record { aperture = d.aperture; first = d.first; length = twice d.points }; used = d.used }

unfoldable pub all_handed : List Drawn → List Handed
all_handed [] = []
all_handed (d ∷ ds) = handed d ∷ all_handed ds

-- what a path holds for a stroke
abbrev pub entries_of : List ℤ → Handed → List ℤ
entries_of p h = take h.thing.length (drop h.thing.first p)

-- "Strokes handed out stand one after another in the lent path and stay valid": the path holds the points of each, n being the first's first entry
pub data Stand (p : List ℤ) : ℕ → List Drawn → Type 0 where
  none_left : {n : ℕ} → Stand p n []
  and_next : {n : ℕ} {d : Drawn} {ds : List Drawn} → d.first ≡ n → entries_of p (handed d) ≡ flat d.points → Stand p (n + twice d.points) ds → Stand p n (d ∷ ds)

pub record ExactlyThese (d : Drawing) (given : List Handed) (fault : Option Fault) (u : Reader) (q : List ℤ) : Type 0 where
  pub strokes : given ≡ all_handed d.strokes
  pub stand : Stand q 0 d.strokes
  pub refusal : told fault u ≡ d.refusal

abbrev pub ExactStrokes : Type 0
ExactStrokes = (unit : ℕ) (t : Table) (p q : List ℤ) (l : List ℕ) (fs : List Placed) (bad : Option ℕ) (given : List Handed) (fault : Option Fault) (u : Reader) →
    is_unit unit ≡ true → length l < 2 ^ 64 → Reads first 0 l fs bad → Calls t 0 (started unit) p l given fault u q →
    ExactlyThese (drawn unit (is_held t) (length p) blank (said (pos 0) (pos 0) fs) bad) given fault u q

-- ---- one call, with any table: strokes handed out "stay valid". Those are the entries before the open stroke, and a call only adds to them; `ordered`
-- is what the next call asks for, and a started reader has it
pub record StillValid (r : Reader) (p : List ℤ) (u : Reader) (q : List ℤ) : Type 0 where
  pub entries : take r.trace.first q ≡ take r.trace.first p
  pub later : r.trace.first ≤ u.trace.first
  pub ordered : u.trace.first ≤ u.trace.filled

abbrev pub StaysValid : Type 0
StaysValid = (r : Reader) (t : Table) (chunk : List ℕ) (p : List ℤ) → r.trace.first ≤ r.trace.filled →
    StillValid r p (feeds r t chunk p).fed.reader (feeds r t chunk p).entries

-- ---- "After a refusal .. every call repeats it."
pub record Latched (r : Reader) (n place : ℕ) : Type 0 where
  pub fed : (t : Table) (chunk : List ℕ) (p : List ℤ) → feeds r t chunk p ≡ record { fed = record { reader = r; given = given·.Refused n place; used = 0 }; entries = p }
  pub finished : finished r ≡ record { reader = r; given = given·.Refused n place; used = 0 }

abbrev pub RefusedForGood : Type 0
RefusedForGood = (r : Reader) (t : Table) (chunk : List ℕ) (p : List ℤ) (n place : ℕ) → (feeds r t chunk p).fed.given ≡ given·.Refused n place →
    Latched (feeds r t chunk p).fed.reader n place

abbrev pub EndRefusedForGood : Type 0
EndRefusedForGood = (r : Reader) (n place : ℕ) → (finished r).given ≡ given·.Refused n place → Latched (finished r).reader n place

-- "N .. from 1 to 1,000,000 (else refusal 1, place 0)"
abbrev pub NoUnit : Type 0
NoUnit = (unit : ℕ) → ¬ (is_unit unit ≡ true) → Latched (started unit) 1 0

-- ---- what is given passes the checks of a row call on its path, and its aperture is in use in the table that chose it
pub record Passes (t : Table) (q : List ℤ) (h : Handed) : Type 0 where
  pub path : path_verdict (entries_of q h) ≡ Passed
  pub coordinates : coordinate_verdict (entries_of q h) ≡ Passed
  pub held : is_held t h.thing.aperture ≡ true

pub data All {A : Type 0} (P : A → Type 0) : List A → Type 0 where
  no_more : All P []
  one_more : {a : A} {l : List A} → P a → All P l → All P (a ∷ l)

abbrev pub GivenPass : Type 0
GivenPass = (unit : ℕ) (t : Table) (p q : List ℤ) (l : List ℕ) (given : List Handed) (fault : Option Fault) (u : Reader) → is_unit unit ≡ true → length l < 2 ^ 64 →
    Calls t 0 (started unit) p l given fault u q → All (Passes t q) given
