-- What the program `overlay` does with two files: which bytes it reads, which calls of this crate it makes of them, and which bytes it writes. The program
-- itself only moves bytes; RunReports (Theorems) says that what it writes is the report.
use Rattle.std.specs.Prelude.{ℕ, zero, suc, List, [], ◌++◌, length, take, drop, unwrap_or, Result, Ok, Err}
use Rattle.bits.specs.Bits.{packed_length}
use Rattle.text.specs.Put.{put_at}
use Rattle.pbm.specs.Reading.{header_in}
use Rattle.text.specs.Ascii.{ascii}
use Rattle.compare.specs.declared.Refusal.{Refusal}
use Rattle.compare.specs.declared.Sizes.{Sizes}
use Rattle.compare.specs.declared.Overlay.{Overlay}
use Rattle.compare.specs.Refusals.{name, sizes_of, last_byte, Ends, ends_of}
use Rattle.compare.specs.Step.{stepped}

-- k rows, fed one after the other: each is read behind the one before it, and of the buffer, which is used again, as many bytes are written as the step counts
unfoldable pub fed : ℕ → Overlay → List ℕ → List ℕ → List ℕ → List ℕ
fed zero o f g space = []
fed (suc k) o f g space =
    let w = packed_length o.columns in
    let s = stepped o (take w f) (take w g) space in
    take (unwrap_or s.count 0) s.buffer ++ fed k s.overlay (drop w f) (drop w g) s.buffer

-- a refusal's line is put in the buffer, and written
abbrev pub named : Refusal → List ℕ → List ℕ
named r space = let p = put_at space 0 (ascii (name r)) in take p.end p.buffer

-- of a file's end at most two bytes are read, from the film's last byte on
abbrev pub end_read : List ℕ → ℕ → ℕ → ℕ → ℕ
end_read f columns rows start = length (take 2 (drop (last_byte columns rows start) f))

abbrev pub run_ended : List ℕ → List ℕ → List ℕ → ℕ → ℕ → ℕ → Ends → List ℕ
run_ended f g space columns rows start (Ok _) = fed rows (record { columns = columns; left = rows }) (drop start f) (drop start g) space
run_ended f g space columns rows start (Err r) = named r space

abbrev pub run_sized : List ℕ → List ℕ → List ℕ → Result Sizes Refusal → List ℕ
run_sized f g space (Ok s) = run_ended f g space s.columns s.rows s.start (ends_of (end_read f s.columns s.rows s.start) (end_read g s.columns s.rows s.start))
run_sized f g space (Err r) = named r space

-- of a header at most 15 bytes are read. `space` is the buffer
abbrev pub run : List ℕ → List ℕ → List ℕ → List ℕ
run f g space = run_sized f g space (sizes_of (header_in (take 15 f)) (header_in (take 15 g)))
