-- "A bad header, then unequal sizes, then short data, then bytes after the last row, the first film before the second, are refused by name".
use Rattle.std.specs.Prelude.{ℕ, ◌+◌, ◌-◌, cond, ◌&&◌, leb, ltb, eqb, ⊤, Result, Ok, Err}
use Prim.Native.String.{String}
use Rattle.pbm.specs.declared.read.Header.{Header}
use Rattle.pbm.specs.declared.read.Header.TheVariants.{Sound, Unsound}
use Rattle.pbm.specs.Pbm.{data_length}
use Rattle.compare.specs.declared.Refusal.{Refusal}
use Rattle.compare.specs.declared.Refusal.TheVariants.{BadHeader1, BadHeader2, UnequalSizes, ShortData1, ShortData2, BytesAfter1, BytesAfter2}
use Rattle.compare.specs.declared.Sizes.{Sizes}

-- "by name": the request's own words, and which film
abbrev pub name : Refusal → String
name BadHeader1 = "refused: bad header, film 1\n"
name BadHeader2 = "refused: bad header, film 2\n"
name UnequalSizes = "refused: unequal sizes\n"
name ShortData1 = "refused: short data, film 1\n"
name ShortData2 = "refused: short data, film 2\n"
name BytesAfter1 = "refused: bytes after the last row, film 1\n"
name BytesAfter2 = "refused: bytes after the last row, film 2\n"

-- the size that two headers share, and where the data start: headers of one size are the same text
abbrev pub sizes_of : Header → Header → Result Sizes Refusal
sizes_of Unsound h = Err BadHeader1
sizes_of (Sound c r n) Unsound = Err BadHeader2
sizes_of (Sound c r n) (Sound d s m) = cond (eqb c d && eqb r s) (Ok (record { columns = c; rows = r; start = n })) (Err UnequalSizes)

-- where a film's last byte stands in its file, its data starting at `start`. Of a size that no film has it is the byte before them, and of a start that no header
-- gives 0: nothing asks for these
abbrev pub last_byte : ℕ → ℕ → ℕ → ℕ
last_byte columns rows start = cond (leb start 15) (start + data_length columns rows - 1) 0

-- whether both files end with their films
abbrev pub Ends : Type 0  -- a type, and no claim
Ends = Result ⊤ Refusal

-- how many bytes each file has from its film's last byte on: none where the data are short, and more than one where bytes follow them
abbrev pub ends_of : ℕ → ℕ → Ends
ends_of first second =
    cond (ltb first 1) (Err ShortData1)
    (cond (ltb second 1) (Err ShortData2)
    (cond (ltb 1 first) (Err BytesAfter1)
    (cond (ltb 1 second) (Err BytesAfter2) (Ok record {}))))
