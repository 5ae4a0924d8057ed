-- The entries of points, and two entries written behind a path's first ones.
use Prim.Native.Nat.{ℕ, suc, ◌+◌, ◌≤◌}
use native.Mathlib.Numerals.{add-one, add-two}
use native.Mathlib.Omega.{arith}
use mathlib.Core.Path.{◌≡◌, refl, ap, ◌∙◌}
use mathlib.Core.List.{List, [], ◌∷◌, ◌++◌, append_assoc}
use lib.ListN.{length, take, set, length-set}
use lib.Seq.{take-suc-set, take-set-le}
use lib.IntN.{ℤ}
use Rattle.trace.specs.Trace.{put2}
use Rattle.plane.specs.Point.{Pt}
use Rattle.gerber_file.specs.Strokes.{flat, twice}

-- ---- points
-- a point has two entries
pub length_flat : (ps : List Pt) → length (flat ps) ≡ twice ps
unfolding flat
length_flat [] = refl
length_flat (p ∷ ps) = let h = length_flat ps in omega arith

pub flat_append : (ps qs : List Pt) → flat (ps ++ qs) ≡ flat ps ++ flat qs
unfolding flat
flat_append [] qs = refl
flat_append (p ∷ ps) qs = ap (λ (l : List ℤ). p.x ∷ p.y ∷ l) (flat_append ps qs)

-- ---- two entries
pub length_put2 : (l : List ℤ) (n : ℕ) (x y : ℤ) → length (put2 l n x y) ≡ length l
length_put2 l n x y = length-set (set l n x) (n + 1) y ∙ length-set l n x

-- what stands before them stays
pub take_before : (m : ℕ) (l : List ℤ) (n : ℕ) (x y : ℤ) → m ≤ n → take m (put2 l n x y) ≡ take m l
take_before m l n x y h = take-set-le m (set l n x) (n + 1) y (omega arith) ∙ take-set-le m l n x h

-- and they stand behind it
pub take_put2 : (l : List ℤ) (n : ℕ) (x y : ℤ) → n + 2 ≤ length l → take (n + 2) (put2 l n x y) ≡ take n l ++ (x ∷ y ∷ [])
take_put2 l n x y h =
    let one : take (suc n) (set l n x) ≡ take n l ++ (x ∷ []) = take-suc-set l n x (omega arith) in
    let two : take (suc (suc n)) (set (set l n x) (suc n) y) ≡ take (suc n) (set l n x) ++ (y ∷ []) = take-suc-set (set l n x) (suc n) y (omega (arith, length-set l n x)) in
    rw (add-two, add-one) (two ∙ ap (λ (k : List ℤ). k ++ (y ∷ [])) one ∙ append_assoc (take n l) (x ∷ []) (y ∷ []))
