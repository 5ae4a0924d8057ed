-- The strokes of the second reading by where they start: there are no more of them than fours of entries, and two starts tell a stroke's entries.
use Prim.Native.Nat.{ℕ, zero, suc, ◌+◌, ◌-◌, ◌*◌, ◌≤◌, ◌<◌}
use native.Mathlib.Omega.{arith}
use mathlib.Core.Path.{◌≡◌, refl, sym, ap, ap₂, ◌∙◌}
use mathlib.Core.List.{List, [], ◌∷◌, ◌++◌}
use lib.ListN.{length, get_or, take, drop, length-take, length-drop}
use lib.IntN.{ℤ}
use Rattle.gerber_file.specs.Strokes.{Drawn, flat, twice}
use Rattle.gerber_file.specs.Theorems.{all_handed, Stand, none_left, and_next, All}
use Rattle.gerber_file.proofs.Entries.{length_flat}
use Rattle.gerber_file.proofs.Passing.{opened}
use Rattle.gerber_film.specs.File.{no_stroke}
use Rattle.gerber_film.proofs.Noted.{apertures_of, firsts_of}
use Rattle.gerber_film.proofs.Ends.{last_end}
use Rattle.gerber_film.proofs.Long.{Long}

-- where strokes start that stand one after another, n being the first's first entry; with the end of the last
abbrev pub marks : ℕ → List Drawn → List ℕ
marks n [] = n ∷ []
marks n (d ∷ ds) = n ∷ marks (n + twice d.points) ds

-- ---- the entries of a stroke are the path's
-- a part that is as long as it was asked to be is within the list
within : {A : Type 0} (n first : ℕ) (l : List A) → length (take n (drop first l)) ≡ n → 1 ≤ n → first + n ≤ length l
within n first l e h = omega (arith, e, h, length-take n (drop first l), length-drop first l)

stroke_within : (q : List ℤ) (d : Drawn) (n : ℕ) → d.first ≡ n → take (twice d.points) (drop d.first q) ≡ flat d.points → Long d → n + twice d.points ≤ length q
stroke_within q d n e f h =
    let k = within (twice d.points) d.first q (ap length f ∙ length_flat d.points) (omega (arith, h)) in omega (arith, e, k)

-- so that there are at most a quarter as many strokes
pub few : (q : List ℤ) {n : ℕ} {ds : List Drawn} → Stand q n ds → All Long ds → n ≤ length q → n + 4 * length ds ≤ length q
few q none_left a h = omega (arith, h)
few q (and_next {n = n} {d = d} e f s) a h =
    let o = opened a in
    let r = few q s o.1 (stroke_within q d n e f o.0) in
    omega (arith, r, o.0)

-- ---- two starts tell them
-- the entries from `first` on and before `end` are those of stroke d
pub record Between (q : List ℤ) (first end : ℕ) (d : Drawn) : Type 0 where
  pub ordered : first ≤ end
  pub within : end ≤ length q
  pub path : take (end - first) (drop first q) ≡ flat d.points

first_mark_lem : (n : ℕ) (ds : List Drawn) → get_or (marks n ds) 0 0 ≡ n
first_mark_lem n [] = refl
first_mark_lem n (d ∷ ds) = refl

pub between : (q : List ℤ) {n : ℕ} {ds : List Drawn} → Stand q n ds → All Long ds → (k : ℕ) → k < length ds →
    Between q (get_or (marks n ds) k 0) (get_or (marks n ds) (suc k) 0) (get_or ds k no_stroke)
between q none_left a k h = absurd (omega (arith, h))
between q (and_next {n = n} {d = d} {ds = ds} e f s) a zero h =
    let m = first_mark_lem (n + twice d.points) ds in
    let y = get_or (marks (n + twice d.points) ds) 0 0 in
    let long : y - n ≡ twice d.points = omega (arith, m) in
    record {
      ordered = omega (arith, m);
      within = omega (arith, m, stroke_within q d n e f (opened a).0);
      path = ap₂ (λ (i j : ℕ). take i (drop j q)) long (sym e) ∙ f;
    }
between q (and_next e f s) a (suc k) h = between q s (opened a).1 k (omega (arith, h))

-- ---- what is noted of these strokes
pub count_handed : (ds : List Drawn) → length (all_handed ds) ≡ length ds
unfolding all_handed
count_handed [] = refl
count_handed (d ∷ ds) = ap suc (count_handed ds)

pub length_apertures : (ds : List Drawn) → length (apertures_of (all_handed ds)) ≡ length ds
unfolding all_handed
length_apertures [] = refl
length_apertures (d ∷ ds) = ap suc (length_apertures ds)

pub aperture_at : (ds : List Drawn) (k : ℕ) → get_or (apertures_of (all_handed ds)) k 0 ≡ (get_or ds k no_stroke).aperture
unfolding all_handed
aperture_at [] zero = refl
aperture_at [] (suc k) = refl
aperture_at (d ∷ ds) zero = refl
aperture_at (d ∷ ds) (suc k) = aperture_at ds k

-- their first entries, and the end of the last
pub handed_marks : (q : List ℤ) {n : ℕ} {ds : List Drawn} → Stand q n ds → firsts_of (all_handed ds) ++ (last_end n (all_handed ds) ∷ []) ≡ marks n ds
unfolding all_handed
handed_marks q none_left = refl
handed_marks q (and_next {n = n} {d = d} {ds = ds} e f s) =
    ap (λ (i : ℕ). i ∷ (firsts_of (all_handed ds) ++ (last_end (i + twice d.points) (all_handed ds) ∷ []))) e ∙ ap (λ (z : List ℕ). n ∷ z) (handed_marks q s)
