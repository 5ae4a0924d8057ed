-- The rows that a path reaches. Each of its points lies as high as the least y or higher; so a row below that y less the pen's half height has nothing of any segment
-- (`OutsideNone` of the crate outline), and so on the other side.
use Prim.Native.Nat.{ℕ, suc, ◌+◌, ◌*◌, ◌<◌}
use native.Mathlib.Omega.{arith}
use native.Mathlib.Decide.{dec_le}
use mathlib.Core.Path.{◌≡◌, refl, sym, ap, subst, ◌∙◌}
use mathlib.Core.Logic.{inl, inr}
use mathlib.Core.Bool.{Bool, true, false, ◌||◌}
use mathlib.Core.List.{List, [], ◌∷◌}
use lib.ListN.{length, get_or}
use lib.IntN.{ℤ, pos, ◌+ℤ◌, ◌-ℤ◌, ◌*ℤ◌}
use Rattle.integers.specs.Orders.{◌≼◌}
use Rattle.integers.proofs.Ring.{ring, reify}
use Rattle.integers.proofs.Order.{le_or_lt, lt_le}
use Rattle.integers.proofs.Tests.{clash}
use Rattle.plane.specs.Point.{Pt, pt}
use Rattle.plane.specs.Polygon.{PenLaws}
use Rattle.ties.specs.Below.{below}
use Rattle.ties.proofs.Heights.{below_laws}
use Rattle.stroke.specs.Sweep.{Seg, path_points, segments}
use Rattle.stroke.specs.Extent.{Span, none, extent}
use Rattle.stroke.specs.Runs.{in_span, any, black_at}
use Rattle.segments.proofs.Ends.{start_in, next_end, own_end}
use Rattle.outline.specs.Outline.{Ordered, forward, backward}
use Rattle.outline.proofs.Theorems.{outside_none}
use Rattle.reach.specs.Reach.{NoneUnder, NoneOver}

-- ---- the heights of a segment's ends are some of the path's
abbrev past : Seg
past = record { from = pt (pos 0) (pos 0); to = pt (pos 0) (pos 0) }

-- what holds of every y holds of both
ends_have : (Q : ℤ → Type 0) (p : List ℤ) → ((k : ℕ) → 2 * k + 1 < length p → Q (get_or p (2 * k + 1) (pos 0))) → (k : ℕ) → k < length (segments (path_points p)) →
    Q (get_or (segments (path_points p)) k past).from.y × Q (get_or (segments (path_points p)) k past).to.y
ends_have Q p h k l = elim (dec_le (2 * k + 4) (length p)) [
  | yes m ↦
      let e : 2 * suc k + 1 ≡ 2 * k + 2 + 1 = omega arith in
      let g = (next_end p k (omega arith)).segment past in
      (subst (λ (g : Seg). Q g.from.y) (sym g) (h k (start_in p k l)), subst (λ (g : Seg). Q g.to.y) (sym g) (rw e at (h (suc k) (omega arith))))
  | no m ↦
      let g = (own_end p k l (omega arith)).segment past in
      (subst (λ (g : Seg). Q g.from.y) (sym g) (h k (start_in p k l)), subst (λ (g : Seg). Q g.to.y) (sym g) (h k (start_in p k l)))
]

-- ---- no segment of them all
any_none : {A : Type 0} (p : A → Bool) (l : List A) (d : A) → ((k : ℕ) → k < length l → p (get_or l k d) ≡ false) → any p l ≡ false
any_none p [] d h = refl
any_none p (a ∷ l) d h = ap (λ (t : Bool). t || any p l) (h 0 (omega arith)) ∙ any_none p l d (λ k q. h (suc k) (omega arith))

-- the lower end and the upper one
record Ends (g : Seg) : Type 1 where
  lo : Pt
  hi : Pt
  ordered : Ordered g lo hi
  either : (Q : ℤ → Type 0) → Q g.from.y → Q g.to.y → Q lo.y × Q hi.y

ends_of_lem : (g : Seg) → Ends g
ends_of_lem g = elim (le_or_lt g.from.y g.to.y) [
  | inl h ↦ record { lo = g.from; hi = g.to; ordered = forward h; either = λ Q a b. (a, b) }
  | inr h ↦ record { lo = g.to; hi = g.from; ordered = backward (lt_le g.to.y g.from.y h); either = λ Q a b. (b, a) }
]

module _ (cs : List Pt) (path : List ℤ) (j x : ℤ) where
  pub nothing : ((k : ℕ) → k < length (segments (path_points path)) → extent cs (get_or (segments (path_points path)) k past) j ≡ none) → black_at cs (path_points path) j x ≡ false
  nothing h = any_none (λ g. in_span (extent cs g j) x) (segments (path_points path)) past (λ k l. ap (λ (s : Span). in_span s x) (h k l))

-- ---- a row past all segments. A test that is not passed is failed
failed : (t : Bool) → ¬ (t ≡ true) → t ≡ false
failed true h = absurd (h refl)
failed false h = refl

module _ (cs : List Pt) (Dx Dy : ℤ) (laws : PenLaws cs Dx Dy) (path : List ℤ) (j x : ℤ) where
  -- a row under the path
  pub row_under : (y : ℤ) → NoneUnder path y → below (pos 16 *ℤ j) (y -ℤ pos 8 *ℤ Dy) ≡ true → black_at cs (path_points path) j x ≡ false
  row_under y n e = nothing cs path j x λ k l.
      let g = get_or (segments (path_points path)) k past in
      let s = ends_of_lem g in
      let h = ends_have (λ z. y ≼ z) path n k l in
      let lower = (s.either (λ z. y ≼ z) h.0 h.1).0 in
      let less : (y z d : ℤ) → y ≼ z → y -ℤ d ≼ z -ℤ d = ring 3 _ (simp reify (omega arith)) in
      outside_none cs Dx Dy laws g s.lo s.hi s.ordered j
      (inl (below_laws.higher (pos 16 *ℤ j) (y -ℤ pos 8 *ℤ Dy) (s.lo.y -ℤ pos 8 *ℤ Dy) (less y s.lo.y (pos 8 *ℤ Dy) lower) e))

  -- and one over it
  pub row_over : (y : ℤ) → NoneOver path y → below (pos 16 *ℤ j) (y +ℤ pos 8 *ℤ Dy) ≡ false → black_at cs (path_points path) j x ≡ false
  row_over y n e = nothing cs path j x λ k l.
      let g = get_or (segments (path_points path)) k past in
      let s = ends_of_lem g in
      let h = ends_have (λ z. z ≼ y) path n k l in
      let upper = (s.either (λ z. z ≼ y) h.0 h.1).1 in
      let less : (y z d : ℤ) → z ≼ y → z +ℤ d ≼ y +ℤ d = ring 3 _ (simp reify (omega arith)) in
      outside_none cs Dx Dy laws g s.lo s.hi s.ordered j
      (inr (failed _ (λ t. clash (below_laws.higher (pos 16 *ℤ j) (s.hi.y +ℤ pos 8 *ℤ Dy) (y +ℤ pos 8 *ℤ Dy) (less y s.hi.y (pos 8 *ℤ Dy) upper) t) e)))
