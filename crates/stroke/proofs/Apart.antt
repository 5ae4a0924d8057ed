-- Lists of runs that are ordered and apart by a clear column: such a list is known by the columns that it covers, so the longest runs of a row are unique.
-- Besides, where the runs of such a list lie, and how many there can be.
use mathlib.Core.Path.{◌≡◌, refl, sym, ap₂}
use mathlib.Core.Logic.{◌↔◌, inl, inr}
use mathlib.Core.List.Memᴰ.{cases_cons as cases}
use mathlib.Core.List.Memᴰ.{head}
use mathlib.Core.List.Memᴰ.{not-nil}
use mathlib.Core.List.Memᴰ.{tail}
use mathlib.Core.List.{List, [], ◌∷◌}
use Prim.Native.Nat.{ℕ, ◌+◌, ◌*◌, ◌≤◌, ◌<◌}
use native.Mathlib.Omega.{arith}
use native.Mathlib.Decide.{dec_le}
use lib.ListN.{length}
use Rattle.integers.specs.Count.{◌∈◌}
use Rattle.stroke.specs.Runs.{Run, Apart, Covers, Longest}

-- ---- columns and runs
-- no column left of the first one allowed is covered
pub apart_from : (lo : ℕ) (rs : List Run) (x : ℕ) → Apart lo rs → Covers rs x → lo ≤ x
apart_from lo [] x a c = absurd c
apart_from lo (r ∷ rs) x a (inl c) = omega arith
apart_from lo (r ∷ rs) x a (inr c) = omega (arith, apart_from (r.right + 2) rs x a.2 c)

-- a column of a run is covered
pub covers_run : (rs : List Run) (r : Run) (x : ℕ) → r ∈ rs → r.left ≤ x → x ≤ r.right → Covers rs x
covers_run [] r x m h k = absurd (not-nil m)
covers_run (s ∷ rs) r x m h k = elim (cases m) [ inl e ↦ inl (rw e at h, rw e at k) | inr i ↦ inr (covers_run rs r x i h k) ]

-- each run covers its own left column
pub run_forward : (lo : ℕ) (rs : List Run) (r : Run) → Apart lo rs → r ∈ rs → r.left ≤ r.right
run_forward lo [] r a m = absurd (not-nil m)
run_forward lo (s ∷ rs) r a m = elim (cases m) [ inl e ↦ rw e a.1 | inr i ↦ run_forward (s.right + 2) rs r a.2 i ]

-- a run and the clear column after it take at least two columns
pub apart_few : (lo n : ℕ) (rs : List Run) → Apart lo rs → ((r : Run) → r ∈ rs → r.right < n) → lo ≤ n + 1 → lo + 2 * length rs ≤ n + 1
apart_few lo n [] a h k = omega arith
apart_few lo n (r ∷ rs) a h k =
    let e : r.right < n = h r (head refl) in
    omega (arith, apart_few (r.right + 2) n rs a.2 (λ s m. h s (tail m)) (omega arith))

-- ---- what covers no more than another list
module _ (r s : Run) (rs ss : List Run) (h : (x : ℕ) → Covers (r ∷ rs) x → Covers (s ∷ ss) x) where
  -- the first column of r is covered by the others, and these start with s
  left_le : {lo mo : ℕ} → Apart lo (r ∷ rs) → Apart mo (s ∷ ss) → s.left ≤ r.left
  left_le a b = apart_from s.left (s ∷ ss) r.left (omega arith, b.1, b.2) (h r.left (inl (omega arith, a.1)))

  -- the column after s is clear, so r ends no later
  right_le : {mo : ℕ} → r.left ≤ s.left → Apart mo (s ∷ ss) → r.right ≤ s.right
  right_le l b = elim (dec_le r.right s.right) [ yes k ↦ k | no k ↦ absurd (out (h (s.right + 1) (inl (omega arith, omega arith)))) ]
    where
      out : Covers (s ∷ ss) (s.right + 1) → ⊥
      out (inl c) = omega arith
      out (inr c) = omega (arith, apart_from (s.right + 2) ss (s.right + 1) b.2 c)

  -- where r and s end together, what the runs after r cover lies beyond s
  tail_covers : r.right ≡ s.right → Apart (r.right + 2) rs → (x : ℕ) → Covers rs x → Covers ss x
  tail_covers e a x c = go (h x (inr c))
    where
      go : Covers (s ∷ ss) x → Covers ss x
      go (inl d) = absurd (omega (arith, apart_from (r.right + 2) rs x a c))
      go (inr d) = d

-- ---- the same columns, the same runs
pub runs_unique : (lo mo : ℕ) (rs ss : List Run) → Apart lo rs → Apart mo ss → ((x : ℕ) → Covers rs x ↔ Covers ss x) → rs ≡ ss
runs_unique lo mo [] [] a b h = refl
runs_unique lo mo [] (s ∷ ss) a b h = absurd ((h s.left).1 (inl (omega arith, b.1)))
runs_unique lo mo (r ∷ rs) [] a b h = absurd ((h r.left).0 (inl (omega arith, a.1)))
runs_unique lo mo (r ∷ rs) (s ∷ ss) a b h =
    let f : (x : ℕ) → Covers (r ∷ rs) x → Covers (s ∷ ss) x = λ x. (h x).0 in
    let g : (x : ℕ) → Covers (s ∷ ss) x → Covers (r ∷ rs) x = λ x. (h x).1 in
    let p : s.left ≤ r.left = left_le r s rs ss f a b in
    let q : r.left ≤ s.left = left_le s r ss rs g b a in
    let p' : r.right ≤ s.right = right_le r s rs ss f q b in
    let q' : s.right ≤ r.right = right_le s r ss rs g p a in
    let d : r.left ≡ s.left = omega arith in
    let e : r.right ≡ s.right = omega arith in
    let t : rs ≡ ss = runs_unique (r.right + 2) (s.right + 2) rs ss a.2 b.2 (λ x. (tail_covers r s rs ss f e a.2 x, tail_covers s r ss rs g (sym e) b.2 x)) in
    ap₂ (λ (x : Run) (l : List Run). x ∷ l) (ap₂ (λ (x y : ℕ). record { left = x; right = y }) d e) t

-- ---- the longest runs
module _ {P : ℕ → Type 0} {n : ℕ} {rs : List Run} (l : Longest P n rs) where
  pub longest_in : (r : Run) → r ∈ rs → (r.left ≤ r.right) × (r.right < n)
  longest_in r m = let k = run_forward 0 rs r l.apart m in (k, ((l.cover r.right).0 (covers_run rs r r.right m k (omega arith))).0)

  pub longest_few : 2 * length rs ≤ n + 1
  longest_few = omega (arith, apart_few 0 n rs l.apart (λ r m. (longest_in r m).1) (omega arith))

  -- of another property that agrees with it below n
  pub longest_iff : (Q : ℕ → Type 0) → ((x : ℕ) → x < n → P x ↔ Q x) → Longest Q n rs
  longest_iff Q e = record {
    apart = l.apart;
    cover = λ x. ((λ c. let d = (l.cover x).0 c in (d.0, (e x d.0).0 d.1)), λ c. (l.cover x).1 (c.0, (e x c.0).1 c.1));
  }

  pub longest_same : {ss : List Run} → Longest P n ss → rs ≡ ss
  longest_same {ss} k = runs_unique 0 0 rs ss l.apart k.apart (λ x. ((λ c. (k.cover x).1 ((l.cover x).0 c)), λ c. (l.cover x).1 ((k.cover x).0 c)))
