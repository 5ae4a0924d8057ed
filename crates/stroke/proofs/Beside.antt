-- Theorem 2b: black exactly when the point a little left of the centre, and by far less below it, lies in the sweep. Each side has a normal, so from some m on it
-- allows the centre exactly when that point is within it; and of the sides there are finitely many, so some m is enough for all.
use mathlib.Core.Path.{◌≡◌, sym, subst}
use mathlib.Core.Logic.Iff
use mathlib.Core.Logic.{◌↔◌}
use mathlib.Core.Bool.{false}
use mathlib.Core.List.Memᴰ
use mathlib.Core.List.{List, [], ◌∷◌, map}
use native.Mathlib.Omega.{arith}
use lib.IntN.{ℤ, pos, neg_ℤ, ◌-ℤ◌, ◌*ℤ◌}
use Rattle.integers.specs.Orders.{◌≼◌}
use Rattle.integers.specs.Compare.{max_z, eq_z}
use Rattle.integers.specs.Count.{◌∈◌}
use Rattle.integers.proofs.Ring.{ring, reify}
use Rattle.integers.proofs.Order.{le_refl, le_trans}
use Rattle.integers.proofs.Signs.{square_pos}
use Rattle.integers.proofs.Tests.{clash, and_true, eq_iff, max_l, max_r}
use Rattle.plane.specs.Point.{Pt, same}
use Rattle.plane.specs.Polygon.{Side, PenLaws}
use Rattle.stroke.specs.Sweep.{Seg}
use Rattle.stroke.specs.Sides.{sides}
use Rattle.stroke.specs.Black.{Black}
use Rattle.stroke.specs.Beside.{larger, larger_seg, beside, SweptBeside}
use Rattle.stroke.specs.Theorems.{BlackBeside}
use Rattle.stroke.proofs.Corners.{Normal, edge_normal}
use Rattle.stroke.proofs.Support.{one_lt}
use Rattle.stroke.proofs.Sides.{Meets, each_side}
use Rattle.stroke.proofs.Sweep.{sweep_iff}
use Rattle.stroke.proofs.Black.{Allows, black_iff}
use Rattle.stroke.proofs.Enlarged.{enlarge, pen_larger, each_larger}
use Rattle.stroke.proofs.Little.{enough, little_iff}

-- ---- the greatest of what is enough for each side, and at least 1
most : List Side → ℤ
most [] = pos 1
most (e ∷ l) = max_z (enough e) (most l)

most_some : (l : List Side) → pos 1 ≼ most l
unfolding most
most_some [] = le_refl (pos 1)
most_some (e ∷ l) = le_trans (pos 1) (most l) _ (most_some l) (max_r (enough e) (most l))

most_each : (l : List Side) {e : Side} → e ∈ l → enough e ≼ most l
unfolding most
most_each [] m = absurd (Memᴰ.not-nil m)
most_each (f ∷ l) (Memᴰ.head q) = subst (λ (e : Side). enough e ≼ max_z (enough f) (most l)) (sym q) (max_l (enough f) (most l))
most_each (f ∷ l) {e} (Memᴰ.tail k) = le_trans (enough e) (most l) _ (most_each l k) (max_r (enough f) (most l))

-- ---- every side has a normal
-- an edge of the pen has one, and so has a side along the path, since the ends differ
no_way : (p q : ℤ) → q -ℤ p ≡ pos 0 → p ≡ q
no_way = ring 2 _ (λ ρ. simp (reify, ρ) (omega arith))

no_way_back : (p q : ℤ) → neg_ℤ (q -ℤ p) ≡ pos 0 → p ≡ q
no_way_back = ring 2 _ (λ ρ. simp (reify, ρ) (omega arith))

differ : (A B : Pt) → same A B ≡ false → A.x ≡ B.x → A.y ≡ B.y → ⊥
differ A B d p q = clash (and_true (eq_z A.x B.x) (eq_z A.y B.y) ((eq_iff A.x B.x).1 p) ((eq_iff A.y B.y).1 q)) d

module _ (cs : List Pt) (Dx Dy : ℤ) (pen : PenLaws cs Dx Dy) (g : Seg) where
  pub side_normal : (e : Side) → e ∈ sides cs g → Normal e
  side_normal =
      let A = g.from in
      let B = g.to in
      each_side Normal cs g (record {
        edgewise = edge_normal cs Dx Dy pen;
        path = λ d. (
          (λ z. differ A B d (no_way_back A.x B.x z.1) (no_way A.y B.y z.0)),
          λ z. differ A B d (no_way A.x B.x z.1) (no_way_back A.y B.y z.0),
        );
      })

  -- ---- all sides together
  module _ (X : Pt) (m : ℤ) (great : most (sides cs g) ≼ m) where
    some : pos 1 ≼ m
    some = le_trans (pos 1) (most (sides cs g)) m (most_some (sides cs g)) great

    one_side : (e : Side) → e ∈ sides cs g → Allows X e ↔ Meets (beside m X) (enlarge (m *ℤ m) e)
    one_side e k = little_iff X m some e (le_trans (enough e) (most (sides cs g)) m (most_each (sides cs g) k) great) (side_normal e k)

    swept_iff : SweptBeside cs g X m ↔ ((e : Side) → e ∈ sides cs g → Meets (beside m X) (enlarge (m *ℤ m) e))
    swept_iff =
        let N = m *ℤ m in
        let hN = square_pos m (one_lt m some) in
        Iff.trans (sweep_iff (map (larger N) cs) (N *ℤ Dx) (N *ℤ Dy) (pen_larger N hN cs Dx Dy pen) (larger_seg N g) (beside m X))
        (Iff.symm (each_larger N hN cs g (Meets (beside m X))))

    beside_iff : Black cs g X ↔ SweptBeside cs g X m
    beside_iff = Iff.trans (black_iff cs Dx Dy pen g X) (Iff.trans ((λ h e k. (one_side e k).0 (h e k)), λ h e k. (one_side e k).1 (h e k)) (Iff.symm swept_iff))

pub black_beside : BlackBeside
black_beside cs Dx Dy pen g X = (most (sides cs g), beside_iff cs Dx Dy pen g X)
