-- The bytes of a row that was cleared and that the segments were laid over: those of the columns that the path blackens.
use mathlib.Core.Path.{◌≡◌, sym, ap, ap₂, ◌∙◌}
use mathlib.Core.Bool.{Bool, false}
use mathlib.Core.List.{List, ◌++◌}
use Prim.Native.Nat.{ℕ, ◌≤◌}
use native.Mathlib.Omega.{arith}
use lib.IntN.{ℤ, pos}
use lib.ListN.{length, take, drop, replicate, length-append, length-take}
use Rattle.limits.specs.Sizes.{Drawable}
use Rattle.plane.specs.Point.{Pt}
use Rattle.bits.specs.Bits.{packed_length, packed, laid_over}
use Rattle.bits.proofs.Bytes.{packed_length_lem, packed_clear}
use Rattle.bits.proofs.Over.{over_packed, over_front}
use Rattle.stroke.specs.Sweep.{path_points}
use Rattle.stroke.specs.Runs.{black_at}
use Rattle.cuts.specs.declared.Bounds.{Bounds}
use Rattle.cuts.specs.Cuts.{laid}
use Rattle.cuts.proofs.Segments.{drawable_near}
use Rattle.cuts.proofs.Together.{laid_row}
use Rattle.packed.specs.Packed.{packed_atop, packed_over}

-- a buffer whose first bytes are filled with 0 holds the row with no black column
pub row_cleared : (columns : ℕ) (b : List ℕ) {n : ℕ} {a : List ℕ} → n ≡ packed_length columns → packed_length columns ≤ length b → a ≡ replicate (length (take n b)) 0 →
    a ++ drop n b ≡ packed_atop (λ _. false) columns b
row_cleared columns b {n} e l f =
    let long : length (take n b) ≡ packed_length columns = omega (arith, length-take n b) in
    ap₂ (λ (x : List ℕ) (k : ℕ). x ++ drop k b) (f ∙ ap (λ (k : ℕ). replicate k 0) long ∙ sym (packed_clear columns)) e

-- a row laid over a cleared one
over_cleared : (f : ℕ → Bool) (columns : ℕ) (b : List ℕ) → laid_over (packed_atop (λ _. false) columns b) (packed f columns) ≡ packed_atop f columns b
over_cleared f columns b =
    over_front (packed (λ _. false) columns) (packed f columns) (drop (packed_length columns) b) (omega (arith, packed_length_lem f columns, packed_length_lem (λ _. false) columns))
    ∙ ap (λ (l : List ℕ). l ++ drop (packed_length columns) b) (over_packed (λ _. false) f columns)

pub packed_laid : (cs : List Pt) (p : List ℤ) (columns j : ℕ) → Drawable p columns j → (b : List ℕ) {a c : List ℕ} {u : Bounds} → a ≡ packed_atop (λ _. false) columns b →
    record { bytes = c; bounds = u } ≡ laid cs (path_points p) columns j a → c ≡ packed_over cs p columns j b
packed_laid cs p columns j d b {a} e l =
    laid_row cs (path_points p) columns j d.size (drawable_near d) a
    (omega (arith, ap length e, length-append (packed (λ _. false) columns) (drop (packed_length columns) b), packed_length_lem (λ _. false) columns)) l
    ∙ ap (λ (r : List ℕ). laid_over r (packed (λ x. black_at cs (path_points p) (pos j) (pos x)) columns)) e
    ∙ over_cleared (λ x. black_at cs (path_points p) (pos j) (pos x)) columns b
