-- What the pass over the columns knows after each of them.
use mathlib.Core.Path.{◌≡◌, refl, sym, ap, ap₂, subst, ◌∙◌}
use mathlib.Core.Bool.{Bool, true, false, not, cond, ◌&&◌}
use mathlib.Core.List.{List, [], ◌∷◌, ◌++◌}
use Prim.Native.Nat.{ℕ, zero, suc, ◌+◌, ◌-◌, ◌*◌, ◌/◌, ◌≤◌, ◌<◌}
use native.Mathlib.Omega.{arith}
use lib.ListN.{length, get_or, drop}
use lib.Seq.{drop-append-add, drop-drop}
use Rattle.integers.proofs.Tests.{clash}
use Rattle.bits.specs.Bits.{bit_at}
use Rattle.bits.proofs.Bytes.{bit_clear}
use Rattle.stroke.specs.Runs.{Run, runs_of}
use Rattle.stroke.proofs.Runs.{runs_few}
use Rattle.cuts.specs.Cuts.{Bounded}
use Rattle.row.specs.declared.runs.Pass.{Pass}
use Rattle.row.specs.Answer.{flat, listed}
use Rattle.row.specs.Pass.{before, PassedTo, Listed}
use Rattle.row.proofs.Grown.{Grown, runs_grown, grown_length, grown_some, runs_more}
use Rattle.row.proofs.BoundedRuns.{runs_clear, black_first, runs_first}
use Rattle.row.proofs.Listed.{stored, listed_grown}

-- before the first column between the bounds, or earlier
pub passed_none : {f : ℕ → Bool} {first end : ℕ} {p : Pass} → Bounded f first end → p ≡ record { black = false; count = 0 } → (x : ℕ) → x ≤ first → PassedTo f x p
passed_none b e x h = record {
  blackness = ap (λ p. p.black) e ∙ sym (black_first b x h);
  counts = ap (λ p. p.count) e ∙ sym (ap length (runs_first b x h));
}

-- there are never more runs than columns, so they can be counted
pub passed_few : {f : ℕ → Bool} {i : ℕ} {p : Pass} → PassedTo f i p → 2 * p.count ≤ i + 1
passed_few {f} {i} h = omega (arith, h.counts, runs_few f i)

-- there is one where the last column is black
pub passed_some : {f : ℕ → Bool} {i : ℕ} {p : Pass} → PassedTo f i p → p.black ≡ true → 1 ≤ p.count
passed_some {f} {i} {p} h e = omega (arith, h.counts, go i (sym h.blackness ∙ e))
  where
    go : (i : ℕ) → before f i ≡ true → 1 ≤ length (runs_of f i)
    go zero q = absurd (clash q refl)
    go (suc i) q = grown_some (subst (λ (t : Bool). Grown i (runs_of f i) (before f i) t (runs_of f (suc i))) q (runs_grown f i))

-- one column further, by what `next` ensures
pub passed_next : {f : ℕ → Bool} {i : ℕ} {p q : Pass} → PassedTo f i p → (q.black ≡ f i) × (q.count ≡ cond (q.black && not p.black) (suc p.count) p.count) → PassedTo f (suc i) q
passed_next {f} {i} {p} {q} h e = record {
  blackness = e.0;
  counts = e.1 ∙ ap₂ (λ (t : Bool) (k : ℕ). cond t (suc k) k) (ap₂ (λ (t u : Bool). t && not u) e.0 h.blackness) h.counts ∙ sym (grown_length (runs_grown f i));
}

-- a list that held the runs before column i holds those with it, once the column is written
pub passed_listed : {f : ℕ → Bool} {i : ℕ} {p q : Pass} → PassedTo f i p → PassedTo f (suc i) q → q.count ≡ cond (q.black && not p.black) (suc p.count) p.count →
    (l m m' : List ℕ) → length m ≡ length l → Listed f i l m →
    (2 * cond (q.black && not p.black) (suc p.count) p.count ≤ length m → m' ≡ stored i p.black q.black p.count m) → Listed f (suc i) l m'
passed_listed {f} {i} {p} {q} h k c l m m' n e w = λ r.
    let more = runs_more f i (suc i) (omega arith) in
    let room : 2 * cond (q.black && not p.black) (suc p.count) p.count ≤ length m = omega (arith, c, k.counts, n, r) in
    let held : m ≡ listed (runs_of f i) l = e (omega (arith, more, r)) in
    w room ∙ rw (held, h.blackness, k.blackness, h.counts) (sym (listed_grown l (runs_grown f i) r))

-- ---- a clear byte
clear_column : (b : List ℕ) (k x : ℕ) → get_or b k 0 ≡ 0 → 8 * k ≤ x → x < 8 * k + 8 → bit_at b x ≡ false
clear_column b k x e h l = let q : k ≡ x / 8 = omega arith in bit_clear b x (subst (λ (i : ℕ). get_or b i 0 ≡ 0) q e)

-- leaves the runs
pub clear_runs : (b : List ℕ) (k : ℕ) → get_or b k 0 ≡ 0 → runs_of (bit_at b) (8 * k) ≡ runs_of (bit_at b) (8 * k + 8)
clear_runs b k e = runs_clear (bit_at b) (8 * k) (8 * k + 8) (omega arith) (λ x h l. clear_column b k x e h l)

-- and is passed at once
pub passed_clear : (b : List ℕ) (k : ℕ) {p q : Pass} → get_or b k 0 ≡ 0 → PassedTo (bit_at b) (8 * k) p → q ≡ record { black = false; count = p.count } → PassedTo (bit_at b) (8 * k + 8) q
passed_clear b k e h f =
    let last : 8 * k + 8 ≡ suc (8 * k + 7) = omega arith in
    record {
      blackness = ap (λ p. p.black) f ∙ sym (ap (before (bit_at b)) last ∙ clear_column b k (8 * k + 7) e (omega arith) (omega arith));
      counts = ap (λ p. p.count) f ∙ h.counts ∙ ap length (clear_runs b k e);
    }

-- ---- the list of runs
flat_length : (rs : List Run) → length (flat rs) ≡ 2 * length rs
flat_length [] = refl
flat_length (r ∷ rs) = omega (arith, flat_length rs)

-- more runs over a list that holds some
pub listed_again : (rs ss : List Run) (l : List ℕ) → length rs ≤ length ss → listed ss (listed rs l) ≡ listed ss l
listed_again rs ss l h =
    let m = 2 * length ss - 2 * length rs in
    let e : 2 * length ss ≡ length (flat rs) + m = omega (arith, flat_length rs) in
    let g : 2 * length rs + m ≡ 2 * length ss = omega arith in
    ap (λ (t : List ℕ). flat ss ++ t)
    (ap (λ (n : ℕ). drop n (listed rs l)) e ∙ drop-append-add (flat rs) (drop (2 * length rs) l) m ∙ drop-drop m (2 * length rs) l ∙ ap (λ (n : ℕ). drop n l) g)

-- so a list that holds the runs of the first i columns over another holds them over itself
pub listed_itself : (f : ℕ → Bool) (i : ℕ) (l m : List ℕ) → length m ≡ length l → Listed f i l m → Listed f i m m
listed_itself f i l m n e = λ r. let held : m ≡ listed (runs_of f i) l = e (omega (arith, n, r)) in rw held (sym (listed_again (runs_of f i) (runs_of f i) l (omega arith)))

-- and those of more columns over either
pub listed_on : (f : ℕ → Bool) (i j : ℕ) → i ≤ j → (l m k : List ℕ) → length m ≡ length l → Listed f i l m → Listed f j m k → Listed f j l k
listed_on f i j h l m k n e g = λ r.
    let more = runs_more f i j h in
    let held : m ≡ listed (runs_of f i) l = e (omega (arith, more, r)) in
    g (omega (arith, n, r)) ∙ ap (listed (runs_of f j)) held ∙ listed_again (runs_of f i) (runs_of f j) l more
