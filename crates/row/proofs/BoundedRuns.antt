-- The runs of a row whose black columns lie between bounds: the pass over its columns can start at the first of the bounds, or before it, and end
-- at their end, or past it.
use mathlib.Core.Path.{◌≡◌, refl, sym, ◌∙◌, subst}
use mathlib.Core.Bool.{Bool, false}
use mathlib.Core.List.{[]}
use Prim.Native.Nat.{ℕ, zero, suc, ◌≤◌, ◌<◌}
use native.Mathlib.Omega.{arith}
use native.Mathlib.Decide.{le_ind}
use Rattle.stroke.specs.Runs.{runs_of}
use Rattle.cuts.specs.Cuts.{Bounded}
use Rattle.row.specs.Pass.{before}
use Rattle.row.proofs.Grown.{Grown, runs_grown, grown_clear}
use Rattle.row.proofs.OneRun.{runs_none}

-- clear columns make no run
pub runs_clear : (f : ℕ → Bool) (i n : ℕ) → i ≤ n → ((x : ℕ) → i ≤ x → x < n → f x ≡ false) → runs_of f i ≡ runs_of f n
runs_clear f i = le_ind (λ n. ((x : ℕ) → i ≤ x → x < n → f x ≡ false) → runs_of f i ≡ runs_of f n) (λ h. refl)
    (λ n k e h. e (λ x l m. h x l (omega arith))
    ∙ sym (grown_clear (subst (λ (t : Bool). Grown n (runs_of f n) (before f n) t (runs_of f (suc n))) (h n k (omega arith)) (runs_grown f n))))

module _ {f : ℕ → Bool} {first end : ℕ} (h : Bounded f first end) where
  -- ---- the pass starts at their first column, or before it: what it knows there
  pub black_first : (x : ℕ) → x ≤ first → before f x ≡ false
  black_first zero k = refl
  black_first (suc x) k = h.clear_before x (omega arith)

  pub runs_first : (x : ℕ) → x ≤ first → runs_of f x ≡ []
  runs_first x k = runs_none x f (λ y m. h.clear_before y (omega arith))

  -- ---- and ends at their end, or past it
  pub runs_end : (n : ℕ) → end ≤ n → runs_of f end ≡ runs_of f n
  runs_end n k = runs_clear f end n k (λ x l m. h.clear_past x l)
