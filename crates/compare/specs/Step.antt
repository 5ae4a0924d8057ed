-- A report made row by row in a lent buffer.
use Rattle.std.specs.Prelude.{ℕ, ◌-◌, Bool, cond, ◌&&◌, List, leb, length, Option, Some, None}
use Rattle.text.specs.Put.{started}
use Rattle.lines.specs.Lines.{lines_text}
use Rattle.lines.specs.Rows.{row_lines}
use Rattle.lines.specs.Put.{is_ready}
use Rattle.compare.specs.declared.Overlay.{Overlay}

-- what is left after a step, how many bytes the row's text has, and the buffer as the step leaves it
pub record Stepped : Type 0 where
  pub overlay : Overlay
  pub count : Option ℕ
  pub buffer : List ℕ

-- `left` rows are still to be reported, so that the next is row left - 1. A row is left, there is all of it, and room for its text
abbrev pub is_next : Overlay → List ℕ → List ℕ → List ℕ → Bool
is_next o a b out = leb 1 o.left && is_ready o.columns (o.left - 1) (length a) (length b) (length out)

abbrev pub next_text : Overlay → List ℕ → List ℕ → List ℕ
next_text o a b = lines_text (row_lines a b o.columns (o.left - 1))

-- the text of the row stands at the buffer's start, and a row less is left. Where it is not so nothing happens
abbrev pub stepped : Overlay → List ℕ → List ℕ → List ℕ → Stepped
stepped o a b out =
    cond (is_next o a b out)
    (record { overlay = record { columns = o.columns; left = o.left - 1 }; count = Some (length (next_text o a b)); buffer = started (next_text o a b) out })
    (record { overlay = o; count = None; buffer = out })
