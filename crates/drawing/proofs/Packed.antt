-- Packed rows laid over each other are the packed row of what any of them has black.
use Prim.Native.Nat.{ℕ, zero, suc, ◌≤◌, ◌<◌}
use native.Mathlib.Omega.{arith}
use mathlib.Core.Path.{◌≡◌, sym, ap, ◌∙◌}
use mathlib.Core.Bool.{Bool, true, false, ◌||◌}
use mathlib.Core.List.{List, ◌++◌, append-nil}
use lib.Dec.{leb}
use lib.ListN.{length, get_or, replicate, length-replicate, drop_of_length-le}
use lib.IntN.{ℤ, pos}
use borrow.Author.Tests.{le-leb}
use Rattle.setting.specs.declared.Setting.{Setting}
use Rattle.plane.specs.Point.{Pt}
use Rattle.pen.specs.Polygon.{pen}
use Rattle.aperture.specs.declared.Table.{Table}
use Rattle.stroke.specs.Runs.{black_at}
use Rattle.limits.specs.declared.Verdict.TheVariants.{Passed}
use Rattle.checks.specs.Checks.{verdict}
use Rattle.checks.specs.Answer.{Result}
use Rattle.stroke.specs.Sweep.{path_points}
use Rattle.bits.specs.Bits.{packed, packed_length, laid_over}
use Rattle.bits.proofs.Bytes.{packed_length_lem, packed_clear}
use Rattle.bits.proofs.Over.{over_packed}
use Rattle.packed.specs.Packed.{pack_result, packed_call}
use Rattle.packed.proofs.Stored.{packed_call_is}
use Rattle.aperture.specs.Reachable.{Holds}
use Rattle.drawing.specs.Strokes.{Drawing, table_in, path_of}
use Rattle.drawing.specs.Film.{added, row_up_to, row_of}
use Rattle.drawing.specs.Theorems.{setting_of, DrawableFilm}

-- ---- the row of a stroke whose aperture is in use and that passes the checks
filled : (cs : List Pt) (p : List ℤ) (columns rows j : ℕ) → verdict p columns rows j ≡ Passed →
    (pack_result cs p columns rows j (replicate (packed_length columns) 0)).list ≡ packed (λ x. black_at cs (path_points p) (pos j) (pos x)) columns
unfolding pack_result
filled cs p columns rows j e =
    let n = packed_length columns in
    let zeros : List ℕ = replicate n 0 in
    let l : length zeros ≡ n = length-replicate n 0 in
    let fits : leb n (length zeros) ≡ true = le-leb n (length zeros) (omega arith) in
    let k : length zeros ≤ n = omega arith in
    rw (e, fits, pack_result) (ap (λ (r : List ℕ). packed (λ x. black_at cs (path_points p) (pos j) (pos x)) columns ++ r) (drop_of_length-le zeros k) ∙ append-nil _)

-- the row call of an aperture that holds a setting leaves the packed row of that setting's pen
pub stroke_row : {t : Table} {n : ℕ} {σ : Setting} → Holds t n σ → (p : List ℤ) (columns rows j : ℕ) → verdict p columns rows j ≡ Passed →
    (packed_call t n p columns rows j (replicate (packed_length columns) 0)).list ≡ packed (λ x. black_at (pen σ) (path_points p) (pos j) (pos x)) columns
stroke_row {σ = σ} h p columns rows j v =
    ap (λ (r : Result ℕ). r.list) (packed_call_is h p columns rows j (replicate (packed_length columns) 0)) ∙ filled (pen σ) p columns rows j v

over_stroke : {t : Table} {n : ℕ} {σ : Setting} → Holds t n σ → (p : List ℤ) (columns rows j : ℕ) → verdict p columns rows j ≡ Passed → (f : ℕ → Bool) →
    added t n p columns rows j (packed f columns) ≡ packed (λ x. f x || black_at (pen σ) (path_points p) (pos j) (pos x)) columns
over_stroke {t} {n} {σ} h p columns rows j v f =
    let black : ℕ → Bool = λ x. black_at (pen σ) (path_points p) (pos j) (pos x) in
    let part : ℕ → List ℕ = λ m. (packed_call t n p columns rows j (replicate m 0)).list in
    ap (λ (m : ℕ). laid_over (packed f columns) (part m)) (packed_length_lem f columns) ∙ ap (laid_over (packed f columns)) (stroke_row h p columns rows j v) ∙ over_packed f black columns

-- some number below n passes the test
unfoldable pub any_below : (ℕ → Bool) → ℕ → Bool
any_below f zero = false
any_below f (suc n) = any_below f n || f n

-- row j of a film whose strokes are all taken is the packed row of the pixels that some stroke makes black
pub row_packed : (d : Drawing) (columns rows : ℕ) → DrawableFilm d columns rows → (j : ℕ) → j < rows →
    row_of d columns rows (packed_length columns) j
    ≡ packed (λ x. any_below (λ k. black_at (pen (setting_of d k)) (path_points (path_of d.starts d.entries k)) (pos j) (pos x)) (length d.apertures)) columns
unfolding row_up_to any_below
row_packed d columns rows s j r = go (length d.apertures) (λ k h. h)
  where
    go : (n : ℕ) → ((k : ℕ) → k < n → k < length d.apertures) →
        row_up_to d columns rows j (packed_length columns) n ≡ packed (λ x. any_below (λ k. black_at (pen (setting_of d k)) (path_points (path_of d.starts d.entries k)) (pos j) (pos x)) n) columns
    go zero h = sym (packed_clear columns)
    go (suc n) h =
        let l : n < suc n = omega arith in
        let path = path_of d.starts d.entries n in
        ap (added (table_in d) (get_or d.apertures n 0) path columns rows j) (go n (λ k m. h k (omega arith)))
        ∙ over_stroke (s.holds n (h n l)) path columns rows j (s.passes n j (h n l) r) _
