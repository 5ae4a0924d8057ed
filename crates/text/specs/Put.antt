-- Pieces of text in a buffer.
use Rattle.std.specs.Prelude.{ℕ, ◌+◌, true, false, List, ◌++◌, leb, length, drop}
use Rattle.std.proofs.Math.Seq.{paste}

-- the buffer b with p at its start
abbrev pub started : List ℕ → List ℕ → List ℕ
started p b = p ++ drop (length p) b

-- a buffer in which something was put, and where it ends
pub record Put : Type 0 where
  pub end : ℕ
  pub buffer : List ℕ

-- t in a buffer from index `at` on. Where it does not fit nothing is put
abbrev pub put_at : List ℕ → ℕ → List ℕ → Put
put_at b at t = elim (leb (at + length t) (length b)) [ true ↦ record { end = at + length t; buffer = paste b at t (length t) } | false ↦ record { end = at; buffer = b } ]
