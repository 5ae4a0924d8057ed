-- The bits of what a packed row leaves: those of the pixels that are black by existence; and the rest of the buffer.
use Prim.Native.Nat.{ℕ, ◌+◌, ◌*◌, ◌/◌, ◌%◌, ◌-◌, ◌^◌, ◌<◌}
use mathlib.Core.Bool.{Bool, true, cond, ◌&&◌}
use mathlib.Core.Path.{◌≡◌, sym, ap, ◌∙◌}
use mathlib.Core.Logic.{◌↔◌}
use mathlib.Core.List.{List, ◌++◌}
use native.Mathlib.Omega.{arith}
use borrow.Author.Tests.{ltb-true, lt-ltb}
use lib.Dec.{ltb}
use lib.ListN.{get_or, drop, get_or-append}
use lib.Seq.{drop_at}
use lib.IntN.{ℤ, pos}
use Rattle.stroke.specs.Runs.{black_at}
use Rattle.stroke.proofs.Path.{black_path}
use Rattle.plane.specs.Point.{Pt}
use Rattle.plane.specs.Polygon.{PenLaws}
use Rattle.stroke.specs.Sweep.{centre, path_points}
use Rattle.stroke.specs.Black.{BlackPath}
use Rattle.bits.specs.Bits.{packed, packed_length}
use Rattle.bits.proofs.Tests.{bit_set}
use Rattle.bits.proofs.Bytes.{packed_length_lem, packed_bit}
use Rattle.packed.specs.Packed.{packed_over}

-- the bit of a column in what a packed row leaves
black_bit : (f : ℕ → Bool) (columns : ℕ) (rest : List ℕ) {after : List ℕ} → after ≡ packed f columns ++ rest → (k b : ℕ) → k < packed_length columns → b < 8 →
    (get_or after k 0 / 2 ^ (7 - b) % 2 ≡ 1) ↔ ((8 * k + b < columns) × (f (8 * k + b) ≡ true))
black_bit f columns rest {after} e k b hk hb =
    let q : get_or after k 0 / 2 ^ (7 - b) % 2 ≡ cond (ltb (8 * k + b) columns && f (8 * k + b)) 1 0 =
    ap (λ (l : List ℕ). get_or l k 0 / 2 ^ (7 - b) % 2) e
    ∙ ap (λ (n : ℕ). n / 2 ^ (7 - b) % 2) (get_or-append (packed f columns) rest 0 k (omega (arith, packed_length_lem f columns)))
    ∙ packed_bit f columns k b hb in
    let s = bit_set (ltb (8 * k + b) columns) (f (8 * k + b)) in
    ((λ h. let r = s.0 (sym q ∙ h) in (ltb-true (8 * k + b) columns r.0, r.1)), λ h. q ∙ s.1 (lt-ltb (8 * k + b) columns h.0, h.1))

-- what a packed row leaves, for every pen with the laws: its bits by existence, and the rest of the buffer
module _ (cs : List Pt) (Dx Dy : ℤ) (laws : PenLaws cs Dx Dy) (p : List ℤ) (columns j : ℕ) (before after : List ℕ) (e : after ≡ packed_over cs p columns j before) where
  pub over_bits : (k b : ℕ) → k < packed_length columns → b < 8 →
      (get_or after k 0 / 2 ^ (7 - b) % 2 ≡ 1) ↔ ((8 * k + b < columns) × BlackPath cs (path_points p) (centre (pos (8 * k + b)) (pos j)))
  over_bits k b hk hb =
      let i = black_bit (λ x. black_at cs (path_points p) (pos j) (pos x)) columns (drop (packed_length columns) before) e k b hk hb in
      let q = black_path cs Dx Dy laws (path_points p) (pos (8 * k + b)) (pos j) in
      ((λ x. let y = i.0 x in (y.0, q.0 y.1)), λ x. i.1 (x.0, q.1 x.1))

  pub over_rest : drop (packed_length columns) after ≡ drop (packed_length columns) before
  over_rest =
      ap (drop (packed_length columns)) e
      ∙ drop_at (packed (λ x. black_at cs (path_points p) (pos j) (pos x)) columns) (drop (packed_length columns) before) (packed_length columns) (packed_length_lem _ columns)
