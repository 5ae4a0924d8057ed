-- Of two films of one size nothing is refused: they are told, row by row.
use Prim.Native.Nat.{ℕ}
use native.Mathlib.Omega.{arith}
use mathlib.Core.Path.{◌≡◌, refl, sym, ap, ap₂, ◌∙◌}
use mathlib.Core.List.{List}
use lib.Dec.{eqb}
use lib.ListN.{length}
use borrow.Author.Tests.{eq-eqb}
use Rattle.std.specs.Prelude.{Ok}
use Rattle.integers.proofs.Tests.{and_true}
use Rattle.pbm.specs.Pbm.{header}
use Rattle.pbm.specs.Reading.{header_in}
use Rattle.pbm.proofs.Headed.{header_sound}
use Rattle.compare.specs.Refusals.{sizes_of, ends_of}
use Rattle.compare.specs.Report.{told, film_lines, row_in, end_of, report_ended, report_sized, report_of}
use Rattle.compare.specs.Theorems.{Film, Films, lines_of}
use Rattle.compare.proofs.Headers.{same_sizes}
use Rattle.compare.proofs.Heads.{start_some}
use Rattle.compare.proofs.FileEnds.{end_is}

-- row j of a film whose data start behind its header
abbrev pub film_row : List ℕ → ℕ → ℕ → ℕ → List ℕ
film_row f columns rows = row_in f columns rows (length (header columns rows))

-- a film's file ends with the film, so that from its last byte on it has one
end_one : {f : List ℕ} {columns rows : ℕ} (film : Film f columns rows) → end_of f columns rows film.start ≡ 1
end_one film = omega (arith, end_is film.head, film.size, start_some film.head)

module _ {f g : List ℕ} {columns rows : ℕ} (films : Films f g columns rows) where
  abbrev first : ℕ
  first = films.first.start

  abbrev second : ℕ
  second = films.second.start

  -- both data start behind the same header
  same_start : first ≡ second
  same_start = films.first.head.long ∙ sym films.second.head.long

  -- each header is found, and they say the same size
  same_size : Ok (record { columns = columns; rows = rows; start = first }) ≡ sizes_of (header_in f) (header_in g)
  same_size =
      let f-head = (header_sound f columns rows first).1 films.first.head in
      let g-head = (header_sound g columns rows second).1 films.second.head in
      same_sizes columns rows first columns rows second f-head g-head (and_true (eqb columns columns) (eqb rows rows) (eq-eqb columns columns refl) (eq-eqb rows rows refl))

  -- from its film's last byte on each file has one byte, so that no data are missing and no bytes follow
  both_whole : ends_of (end_of f columns rows first) (end_of g columns rows first) ≡ Ok record {}
  both_whole = ap₂ ends_of (end_one films.first) (ap (end_of g columns rows) same_start ∙ end_one films.second)

  -- so neither check refuses, and a report of films is lines, those of the rows
  first_told : report_of f g ≡ told (film_lines columns (row_in f columns rows first) (row_in g columns rows first) rows)
  first_told = sym (ap (report_sized f g) same_size) ∙ ap (report_ended f g columns rows first) both_whole

  -- the same with the rows behind the header, wherever a film says that it starts
  pub films_told : report_of f g ≡ told (film_lines columns (film_row f columns rows) (film_row g columns rows) rows)
  films_told = first_told ∙ ap (λ (n : ℕ). told (film_lines columns (row_in f columns rows n) (row_in g columns rows n) rows)) films.first.head.long

  -- its lines are those
  pub films_lines : lines_of (report_of f g) ≡ film_lines columns (film_row f columns rows) (film_row g columns rows) rows
  films_lines = ap lines_of films_told
