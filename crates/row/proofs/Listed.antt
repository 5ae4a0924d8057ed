-- What is stored in a list of runs for one column more: the list that held the runs of the columns before it then holds the runs with it.
use mathlib.Core.Path.{◌≡◌, refl, sym, ap, subst, ◌∙◌}
use mathlib.Core.Bool.{Bool, cond}
use mathlib.Core.List.{List, [], ◌∷◌, ◌++◌, map}
use Prim.Native.Nat.{ℕ, suc, ◌+◌, ◌-◌, ◌*◌, ◌≤◌, ◌<◌}
use native.Mathlib.Omega.{arith}
use lib.ListN.{length, get_or, set, take, drop, length-append}
use lib.Seq.{take-suc, drop-cons}
use Rattle.std.proofs.lemmas.List.{map-append, length-map, length-take-le}
use Rattle.stroke.specs.Runs.{Run}
use Rattle.row.specs.Answer.{flat, listed}
use Rattle.row.specs.Together.{between}
use Rattle.row.proofs.Grown.{Longer, last, more, Grown, clear, new, longer, column, longer_some, longer_length}

-- ---- a run more
stored_new : (rs : List Run) (r : Run) (a b : ℕ) (t : List ℕ) →
    flat (rs ++ (r ∷ [])) ++ t ≡ set (set (flat rs ++ a ∷ b ∷ t) (2 * length rs) r.left) (2 * length rs + 1) r.right
stored_new [] r a b t = refl
stored_new (s ∷ rs) r a b t =
    let e : 2 * suc (length rs) ≡ suc (suc (2 * length rs)) = omega arith in
    let e' : 2 * suc (length rs) + 1 ≡ suc (suc (2 * length rs + 1)) = omega arith in
    rw (e', e) (ap (λ l. s.left ∷ s.right ∷ l) (stored_new rs r a b t))

pub listed_new : (rs : List Run) (r : Run) (l : List ℕ) → 2 * length rs + 1 < length l → listed (rs ++ (r ∷ [])) l ≡ set (set (listed rs l) (2 * length rs) r.left) (2 * length rs + 1) r.right
listed_new rs r l h =
    let n = 2 * length rs in
    let e : 2 * length (rs ++ (r ∷ [])) ≡ suc (suc n) = omega (arith, length-append rs (r ∷ [])) in
    let d : drop n l ≡ get_or l n 0 ∷ get_or l (suc n) 0 ∷ drop (suc (suc n)) l = drop-cons l n 0 (omega arith) ∙ ap (λ t. get_or l n 0 ∷ t) (drop-cons l (suc n) 0 (omega arith)) in
    ap (λ k. flat (rs ++ (r ∷ [])) ++ drop k l) e ∙ stored_new rs r (get_or l n 0) (get_or l (suc n) 0) (drop (suc (suc n)) l)
    ∙ ap (λ t. set (set (flat rs ++ t) n r.left) (n + 1) r.right) (sym d)

-- the next of a few
pub listed_next : (few : List (ℕ × ℕ)) (k : ℕ) (d : ℕ × ℕ) → k < length few → (l : List ℕ) → 2 * length few ≤ length l →
    listed (map between (take (suc k) few)) l ≡ set (set (listed (map between (take k few)) l) (2 * k) (get_or few k d).0) (2 * k + 1) (get_or few k d).1
listed_next few k d h l r =
    let rs = map between (take k few) in
    let c = get_or few k d in
    let n : length rs ≡ k = length-map (take k few) between ∙ length-take-le k few (omega arith) in
    let e : map between (take (suc k) few) ≡ rs ++ (between c ∷ []) = ap (map between) (take-suc few k d h) ∙ map-append between (take k few) (c ∷ []) in
    ap (λ (ss : List Run). listed ss l) e
    ∙ subst (λ (m : ℕ). listed (rs ++ (between c ∷ [])) l ≡ set (set (listed rs l) (2 * m) c.0) (2 * m + 1) c.1) n (listed_new rs (between c) l (omega (arith, n, r)))

-- ---- a later end of the last run
stored_longer : {i : ℕ} {rs ss : List Run} (t : List ℕ) → Longer i rs ss → flat ss ++ t ≡ set (flat rs ++ t) (2 * length rs - 1) i
stored_longer t last = refl
stored_longer t (more {r = r} {rs = rs} e) =
    let k : 2 * suc (length rs) - 1 ≡ suc (suc (2 * length rs - 1)) = omega (arith, longer_some e) in
    rw k (ap (λ l. r.left ∷ r.right ∷ l) (stored_longer t e))

listed_longer : {i : ℕ} {rs ss : List Run} (l : List ℕ) → Longer i rs ss → listed ss l ≡ set (listed rs l) (2 * length rs - 1) i
listed_longer {i} {rs} {ss} l e = ap (λ k. flat ss ++ drop (2 * k) l) (longer_length e) ∙ stored_longer (drop (2 * length rs) l) e

-- ---- one column more
-- what is stored for column i after n runs
abbrev pub stored : ℕ → Bool → Bool → ℕ → List ℕ → List ℕ
stored i joined black n l = cond black (cond joined (set l (2 * n - 1) i) (set (set l (2 * n) i) (2 * n + 1) i)) l

pub listed_grown : {i : ℕ} {joined black : Bool} {rs ss : List Run} (l : List ℕ) → Grown i rs joined black ss → 2 * length ss ≤ length l →
    listed ss l ≡ stored i joined black (length rs) (listed rs l)
listed_grown l clear h = refl
listed_grown {i} {rs = rs} l new h = listed_new rs (column i) l (omega (arith, length-append rs (column i ∷ [])))
listed_grown l (longer e) h = listed_longer l e
