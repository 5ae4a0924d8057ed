-- Arrays that hold the points of a list from their start: a store past the last is a point more, and reading them back gives the points.
use Prim.Native.Nat.{ℕ, ◌+◌, ◌-◌, ◌≤◌, ◌<◌}
use mathlib.Core.Path.{◌≡◌, refl, sym, ap, ap₂, subst, ◌∙◌}
use mathlib.Core.List.{List, [], ◌∷◌, ◌++◌, map, append-nil}
use native.Mathlib.Omega.{arith}
use lib.ListN.{length, set, replicate, take, length-map}
use lib.Seq.{take_at}
use lib.IntN.{ℤ, pos}
use mathlib.Core.Bool.{Bool, true, false, cond}
use Rattle.integers.specs.Count.{◌∈◌}
use Rattle.integers.specs.Bound.{Abs}
use Rattle.integers.proofs.Bound.{nat_abs_neg}
use Rattle.limits.specs.Sizes.{quarter_max, pen_max}
use Rattle.setting.specs.declared.Setting.{Setting}
use Rattle.setting.specs.Setting.{Taken}
use Rattle.quarter.specs.Cutting.{Corner, quarter}
use Rattle.quarter.specs.Answer.{laid, across, upwards, quarter_of}
use Rattle.quarter.proofs.Laid.{laid_corner, count_snoc, laid_long, laid_small}
use Rattle.quarter.proofs.Ranges.{quarter_cons}
use Rattle.quarter.proofs.Theorems.{quarter_few, quarter_box}
use Rattle.pen.specs.declared.Pen.{Pen}
use Rattle.plane.specs.Point.{Pt, pt, same, points, corners}
use Rattle.pen.specs.Polygon.{upward}
use Rattle.pen.specs.Answer.{pen_of}
use Rattle.pen.specs.Mirrored.{pushed, Mirrorable, corners_of}
use Rattle.pen.proofs.Images.{map_mem}

-- the pen's arrays with a corner more, unless the next one is equal
abbrev pub once : Pt → Pt → List Pt
once a b = cond (same a b) [] (a ∷ [])

pub pushed_pen : (cs : List Pt) (a b : Pt) → length cs < pen_max → pushed (pen_of cs) a b ≡ pen_of (cs ++ once a b)
pushed_pen cs a b h = go (same a b)
  where
    go : (t : Bool) →
        cond t (pen_of cs) (record { count = length cs + 1; x = set (laid pen_max (map (λ z. z.x) cs)) (length cs) a.x; y = set (laid pen_max (map (λ z. z.y) cs)) (length cs) a.y })
        ≡ pen_of (cs ++ cond t [] (a ∷ []))
    go true = ap pen_of (sym (append-nil cs))
    go false = rw (count_snoc cs a, laid_corner pen_max (λ (z : Pt). z.x) cs a h, laid_corner pen_max (λ (z : Pt). z.y) cs a h)

-- the two cases of a corner more
pub pushed_skipped : (p : Pen) (a b : Pt) → same a b ≡ true → p ≡ pushed p a b
pushed_skipped p a b e = sym (ap (λ (t : Bool). cond t p (record { count = p.count + 1; x = set p.x p.count a.x; y = set p.y p.count a.y })) e)

pub pushed_added : (p : Pen) (a b : Pt) → same a b ≡ false → record { count = p.count + 1; x = set p.x p.count a.x; y = set p.y p.count a.y } ≡ pushed p a b
pushed_added p a b e = sym (ap (λ (t : Bool). cond t p (record { count = p.count + 1; x = set p.x p.count a.x; y = set p.y p.count a.y })) e)

-- ---- reading the arrays back gives the points: of two numbers of each element, and so of the quarter's corners and of a list of points
module _ {A : Type 0} (f g : A → ℤ) where
  points_of : (cs : List A) → points (map f cs) (map g cs) ≡ map (λ c. pt (f c) (g c)) cs
  unfolding points
  points_of [] = refl
  points_of (c ∷ cs) = ap (λ (l : List Pt). pt (f c) (g c) ∷ l) (points_of cs)

  corners_of_lem : (n : ℕ) (cs : List A) → corners (length cs) (laid n (map f cs)) (laid n (map g cs)) ≡ map (λ c. pt (f c) (g c)) cs
  corners_of_lem n cs = ap₂ points (front f) (front g) ∙ points_of cs
    where
      front : (f : A → ℤ) → take (length cs) (laid n (map f cs)) ≡ map f cs
      front f = take_at (map f cs) (replicate (n - length (map f cs)) (pos 0)) (length cs) (length-map cs f)

pub quarter_back : (cs : List Corner) → corners_of (quarter_of cs) ≡ map upward cs
quarter_back cs = corners_of_lem across upwards quarter_max cs

pub corners_back : (n : ℕ) (cs : List Pt) → corners (length cs) (laid n (map (λ z. z.x) cs)) (laid n (map (λ z. z.y) cs)) ≡ cs
corners_back n cs = corners_of_lem (λ z. z.x) (λ z. z.y) n cs ∙ same_points_lem cs
  where
    same_points_lem : (cs : List Pt) → map (λ z. pt z.x z.y) cs ≡ cs
    same_points_lem [] = refl
    same_points_lem (c ∷ cs) = ap (λ (l : List Pt). c ∷ l) (same_points_lem cs)

-- ---- the arrays of a setting's quarter can be mirrored
module _ (σ : Setting) (τ : Taken σ) where
  coordinate_small : (f : Corner → ℤ) → ((c : Corner) → c ∈ quarter σ → Abs (f c) 32) → (z : ℤ) → z ∈ map f (quarter σ) → Abs z 32
  coordinate_small f h z m = let c = map_mem f (quarter σ) m in subst (λ (x : ℤ). Abs x 32) (sym c.2) (h c.0 c.1)

  pub mirrorable : Mirrorable (quarter_of (quarter σ))
  mirrorable =
      let few : length (quarter σ) ≤ quarter_max = quarter_few σ τ in
      record {
        some = subst (λ (l : List Corner). 1 ≤ length l) (sym (quarter_cons σ τ).cons) (omega arith);
        few = few;
        x_long = laid_long quarter_max across (quarter σ) few;
        y_long = laid_long quarter_max upwards (quarter σ) few;
        x_small = λ i _. laid_small 32 quarter_max (map across (quarter σ)) (coordinate_small across (λ c m. record { abs = (quarter_box σ τ c m).0 })) i;
        y_small = λ i _. laid_small 32 quarter_max (map upwards (quarter σ)) (coordinate_small upwards (λ c m. record { abs = omega (arith, nat_abs_neg (pos c.y), (quarter_box σ τ c m).1) })) i;
      }
