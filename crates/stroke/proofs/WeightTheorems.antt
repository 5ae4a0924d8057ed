-- Runs and line weight: the claims 4 to 7 of specs/Theorems.antt, each under its name there.
use mathlib.Core.Path.{◌≡◌, refl, subst}
use mathlib.Core.Logic.Iff
use mathlib.Core.Logic.{inr, ◌↔◌}
use mathlib.Core.Bool.{Bool, true, false}
use mathlib.Core.List.Memᴰ.{eq_of_singleton as only}
use mathlib.Core.List.Memᴰ.{head}
use mathlib.Core.List.{List}
use native.Mathlib.Omega.{arith}
use lib.Dec.{T}
use lib.IntN.{ℤ, pos, neg_ℤ, ◌+ℤ◌, ◌-ℤ◌, ◌*ℤ◌}
use lib.Signed.{lt_z_yes}
use Rattle.integers.specs.Orders.{◌≼◌, ◌≺◌}
use Rattle.integers.proofs.Ring.{ring, reify}
use Rattle.integers.proofs.Tests.{clash}
use Rattle.integers.proofs.Count.{number_iff}
use Rattle.plane.specs.Point.{Pt}
use Rattle.ties.specs.Kept.{kept}
use Rattle.ties.proofs.Kept.{kept_says}
use Rattle.stroke.specs.Sweep.{Seg, centre}
use Rattle.stroke.specs.Black.{Black, BlackPath}
use Rattle.stroke.specs.Runs.{black_at}
use Rattle.stroke.specs.Weight.{Pixel, path, InRows, BlackPixel}
use Rattle.stroke.specs.Theorems.{RunsLongest, LongestUnique, RowsHold, ColumnHolds, ColumnBand}
use Rattle.stroke.proofs.Path.{black_path}
use Rattle.stroke.proofs.Apart.{longest_iff, longest_same}
use Rattle.stroke.proofs.Runs.{runs_of_lem}
use Rattle.stroke.proofs.Window.{Strip, Band, strip_number, band_number}
use Rattle.stroke.proofs.Rising.{rising_iff}
use Rattle.stroke.proofs.Level.{middle, level_iff}

-- ---- runs
passed : (b : Bool) → T b ↔ (b ≡ true)
passed true = ((λ _. refl), λ _. tt)
passed false = ((λ h. absurd h), λ e. clash e refl)

-- the test of a column says whether it is black for the path
pub runs_longest : RunsLongest
runs_longest cs Dx Dy pen path columns j =
    longest_iff (runs_of_lem (λ x. black_at cs path (pos j) (pos x)) columns) (λ x. BlackPath cs path (centre (pos x) (pos j)))
    (λ x _. Iff.trans (passed (black_at cs path (pos j) (pos x))) (black_path cs Dx Dy pen path (pos x) (pos j)))

pub longest_unique : LongestUnique
longest_unique black n rs ss l k = longest_same l k

-- ---- line weight
-- a path of two points has one segment
pub two_points : (cs : List Pt) (g : Seg) (X : Pt) → BlackPath cs (path g) X ↔ Black cs g X
two_points cs g X = ((λ b. subst (λ (s : Seg). Black cs s X) (only b.on_path) b.black), λ b. record { segment = g; on_path = head refl; black = b })

-- the black pixels of v middle rows are those of the strip
pub rows_hold : RowsHold
rows_hold cs Dx Dy pen g u v t dir c e j inside = number_iff _ (λ p. InRows j v p.row × BlackPixel cs g p) same (strip_number u v dir.rising dir.coprime g.from c j)
  where
    strip_iff : (p : Pixel) → InRows j v p.row → BlackPixel cs g p ↔ Strip (pos c) u (pos v) g.from (centre p.column p.row)
    strip_iff p h =
        let X = centre p.column p.row in
        let k = inside p.row h in
        Iff.trans (two_points cs g X) (subst (λ (z : ℤ). Black cs g X ↔ Strip z u (pos v) g.from X) e (rising_iff cs Dx Dy pen g u v t dir X k.0 k.1))

    same : (p : Pixel) → (InRows j v p.row × Strip (pos c) u (pos v) g.from (centre p.column p.row)) ↔ (InRows j v p.row × BlackPixel cs g p)
    same p = ((λ h. (h.0, (strip_iff p h.0).1 h.1)), λ h. (h.0, (strip_iff p h.0).0 h.1))

-- the black pixels of a middle column are those of the band
pub column_holds : ColumnHolds
column_holds cs Dx Dy pen g flat differs i inside =
    number_iff _ (λ j. BlackPixel cs g (record { column = i; row = j }))
    (λ j. Iff.symm (Iff.trans (two_points cs g (centre i j)) (level_iff cs Dx (pos Dy) pen g (centre i j) flat differs inside.0 inside.1)))
    (band_number (middle (kept (pos 0) (pos 1)) g.from.y) Dy i)

-- a side that points straight up is kept, so that the band lies around the path itself
tops_kept : kept (pos 0) (pos 1) ≡ true
tops_kept = (kept_says (pos 0) (pos 1)).1 (inr (refl, lt_z_yes tt))

band_iff : (D h y : ℤ) → ((neg_ℤ (pos 8 *ℤ D) ≺ y -ℤ h) ↔ (h -ℤ pos 8 *ℤ D ≺ y)) × ((y -ℤ h ≼ pos 8 *ℤ D) ↔ (y ≼ h +ℤ pos 8 *ℤ D))
band_iff = ring 3 _ (λ ρ. simp (reify, ρ) (omega arith))

pub column_band : ColumnBand
column_band cs Dx Dy pen g flat differs i j inside =
    let X = centre i j in
    let b : Black cs g X ↔ Band Dy g.from.y X =
    subst (λ (t : Bool). Black cs g X ↔ Band Dy (middle t g.from.y) X) tops_kept (level_iff cs Dx Dy pen g X flat differs inside.0 inside.1) in
    let s = band_iff Dy g.from.y X.y in
    Iff.trans (two_points cs g X) (Iff.trans b ((λ h. (s.0.0 h.low, s.1.0 h.high)), λ h. record { low = s.0.1 h.0; high = s.1.1 h.1 }))
