-- A row that is there, and one that is not.
use Prim.Native.Nat.{ℕ, ◌≤◌, ◌<◌}
use mathlib.Core.Path.{◌≡◌, sym, ap}
use mathlib.Core.Bool.{Bool, true, false, cond, ◌&&◌}
use mathlib.Core.List.{List}
use lib.Dec.{leb}
use lib.ListN.{length}
use borrow.Author.Tests.{leb-true, ltb-true}
use Rattle.std.specs.Prelude.{Some, None}
use Rattle.integers.proofs.Tests.{and_both}
use Rattle.limits.specs.Sizes.{raster_max, is_size, is_row}
use Rattle.limits.proofs.Sizes.{size_iff}
use Rattle.bits.specs.Bits.{packed_length}
use Rattle.text.specs.Put.{put_at}
use Rattle.lines.specs.Lines.{lines_text}
use Rattle.lines.specs.Rows.{row_lines}
use Rattle.lines.specs.Put.{text_room, is_whole, is_ready, row_put}
use Rattle.lines.specs.Held.{Both}

-- what a row that is ready has
pub record Ready (a b : List ℕ) (columns j space : ℕ) : Type 0 where
  pub rows : Both a b columns
  pub row : j < raster_max
  pub room : text_room ≤ space

module _ (a b : List ℕ) (columns j : ℕ) where
  pub ready_facts : (room : ℕ) → is_ready columns j (length a) (length b) room ≡ true → Ready a b columns j room
  ready_facts room e =
      let w = packed_length columns in
      let p = and_both (is_size columns) (is_row j && is_whole w (length a) (length b) room) e in
      let q = and_both (is_row j) (is_whole w (length a) (length b) room) p.1 in
      let r = and_both (leb w (length a)) (leb w (length b) && leb text_room room) q.1 in
      let s = and_both (leb w (length b)) (leb text_room room) r.1 in
      record {
        rows = record { few = ((size_iff columns).0 p.0).few; first = leb-true _ _ r.0; second = leb-true _ _ s.0 };
        row = ltb-true _ _ q.0;
        room = leb-true _ _ s.1;
      }

  -- a row that is there is put, and of one that is not nothing is
  pub row_ready : (out : List ℕ) → is_ready columns j (length a) (length b) (length out) ≡ true →
      (let p = put_at out 0 (lines_text (row_lines a b columns j)) in record { count = Some p.end; buffer = p.buffer }) ≡ row_put a b columns j out
  row_ready out e =
      let p = put_at out 0 (lines_text (row_lines a b columns j)) in
      ap (λ (t : Bool). cond t (record { count = Some p.end; buffer = p.buffer }) (record { count = None; buffer = out })) (sym e)

  pub row_not : (out : List ℕ) → is_ready columns j (length a) (length b) (length out) ≡ false → record { count = None; buffer = out } ≡ row_put a b columns j out
  row_not out e =
      let p = put_at out 0 (lines_text (row_lines a b columns j)) in
      ap (λ (t : Bool). cond t (record { count = Some p.end; buffer = p.buffer }) (record { count = None; buffer = out })) (sym e)
