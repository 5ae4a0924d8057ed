-- The checks by the setting and the length of the bytes, and how small the numbers of a refusal are.
use Prim.Native.Nat.{ℕ, suc, ◌+◌, ◌*◌, ◌%◌, ◌≤◌, ◌<◌}
use mathlib.Core.Path.{◌≡◌, refl, subst}
use mathlib.Core.Bool.{Bool, true, false, ◌&&◌}
use mathlib.Core.List.{List, [], ◌∷◌}
use native.Mathlib.Omega.{arith}
use borrow.Author.Tests.{leb-true, leb-false, lt-leb, eqb-true}
use lib.Dec.{leb, ltb, eqb}
use lib.IntN.{ℤ}
use lib.ListN.{length}
use Rattle.integers.proofs.Tests.{and_both, and_false}
use Rattle.limits.specs.Refusal.{Refusal, number, setting, path, raster, row, coordinate, refuse, unless, ◌then◌}
use Rattle.limits.specs.Sizes.{entries_max, in_range, is_size}
use Rattle.limits.specs.declared.Verdict.{Verdict}
use Rattle.limits.specs.declared.Verdict.TheVariants.{Passed, Refused}
use Rattle.limits.proofs.Verdicts.{not_passed}
use Rattle.wire.specs.Read.{entries_of}
use Rattle.wire.proofs.Entries.{entries_length}
use Rattle.setting.specs.declared.Setting.{Setting}
use Rattle.setting.specs.declared.Checked.{Checked}
use Rattle.setting.specs.declared.Checked.TheVariants as checked·
use Rattle.setting.specs.Answer.{checked, checked_verdict}
use Rattle.checks.specs.Checks.{is_length, path_verdict, raster_verdict, row_verdict, coordinate_from, coordinate_verdict, verdict}
use Rattle.outcome.specs.Outcome.{length_verdict, host_verdict}
use Rattle.outcome.specs.Read.{is_path}

-- ---- the length of the bytes; v is what is checked after it
-- a path with too many entries is refused, whatever else is wrong
too_long : (p : List ℤ) (v : Verdict) → entries_max < length p → (path_verdict p then v) ≡ refuse path 0
too_long p v h =
    let long = and_false (eqb (length p % 2) 0) (leb (length p) entries_max) (lt-leb (length p) entries_max h) in
    rw (and_false (leb 1 (length p)) (eqb (length p % 2) 0 && leb (length p) entries_max) long)

module _ (b : List ℕ) where
  -- bytes that the code does not read are no path, or no path's bytes
  pub length_refused : (v : Verdict) → is_path (length b) ≡ false → (length_verdict b then path_verdict (entries_of b) then v) ≡ refuse path 0
  length_refused v e = go (eqb (length b % 4) 0) refl e
    where
      go : (t : Bool) → eqb (length b % 4) 0 ≡ t → (t && leb (length b) (4 * entries_max)) ≡ false → (unless t path then path_verdict (entries_of b) then v) ≡ refuse path 0
      go false q e = refl
      go true q e = too_long (entries_of b) v (omega (arith, entries_length b, leb-false (length b) (4 * entries_max) e, eqb-true (length b % 4) 0 q))

  -- those that it reads pass the check of the length, and are no more than it has room for
  pub length_passed : is_path (length b) ≡ true → length_verdict b ≡ Passed
  length_passed e = rw (and_both (eqb (length b % 4) 0) (leb (length b) (4 * entries_max)) e).0

  pub bytes_short : is_path (length b) ≡ true → length b ≤ 4 * entries_max
  bytes_short e = leb-true (length b) (4 * entries_max) (and_both (eqb (length b % 4) 0) (leb (length b) (4 * entries_max)) e).1

-- ---- the setting before it
module _ (σ : Setting) (b : List ℕ) (v : Verdict) where
  pub setting_refused : checked σ ≡ checked·.Refused → ((checked_verdict (checked σ) then length_verdict b) then v) ≡ refuse setting 0
  setting_refused e = rw e

  -- the setting is taken, and the rest is the path's
  pub setting_taken : {s : Setting} → checked σ ≡ checked·.Taken s → ((checked_verdict (checked σ) then length_verdict b) then v) ≡ (length_verdict b then v)
  setting_taken e = rw e

-- the checks of a row by both
module _ (σ : Setting) (b : List ℕ) (columns rows j : ℕ) {s : Setting} (e : checked σ ≡ checked·.Taken s) where
  pub bytes_refused : is_path (length b) ≡ false → host_verdict σ b columns rows j ≡ refuse path 0
  bytes_refused f = rw (e, length_refused b (raster_verdict columns rows then row_verdict rows j then coordinate_verdict (entries_of b)) f)

  pub bytes_read : is_path (length b) ≡ true → host_verdict σ b columns rows j ≡ verdict (entries_of b) columns rows j
  bytes_read f = rw (e, length_passed b f)

-- ---- the numbers of a refusal
abbrev pub Small : ℕ → Verdict → Type 0
Small m Passed = Unit
Small m (Refused n place) = (1 ≤ n) × (n < 7) × (place ≤ m)

pub small_unless : (t : Bool) (r : Refusal) (m : ℕ) → 1 ≤ number r → number r < 7 → Small m (unless t r)
small_unless true r m h k = tt
small_unless false r m h k = (h, k, omega arith)

pub small_then : (m : ℕ) (u v : Verdict) → Small m u → (u ≡ Passed → Small m v) → Small m (u then v)
small_then m Passed v s t = t refl
small_then m (Refused n place) v s t = s

-- the index of a bad entry is below the number of entries
small_from : (i : ℕ) (l : List ℤ) → Small (i + length l) (coordinate_from i l)
unfolding coordinate_from
small_from i [] = tt
small_from i (z ∷ l) = go (in_range z) (subst (λ (m : ℕ). Small m (coordinate_from (suc i) l)) (omega arith) (small_from (suc i) l))
  where
    go : (t : Bool) → Small (i + length (z ∷ l)) (coordinate_from (suc i) l) → Small (i + length (z ∷ l)) (elim t as (λ _. Verdict) [ true ↦ coordinate_from (suc i) l | false ↦ refuse coordinate i ])
    go true s = s
    go false s = (omega arith, omega arith, omega arith)

pub small_coordinate : (p : List ℤ) → length p ≤ entries_max → Small entries_max (coordinate_verdict p)
small_coordinate p h = wider (coordinate_verdict p) (omega arith) (small_from 0 p)
  where
    wider : (v : Verdict) {m n : ℕ} → m ≤ n → Small m v → Small n v
    wider Passed h s = tt
    wider (Refused n place) h s = (s.0, s.1, omega (arith, s.2))

pub path_short : (p : List ℤ) → path_verdict p ≡ Passed → length p ≤ entries_max
path_short p e = go (is_length (length p)) refl e
  where
    go : (t : Bool) → is_length (length p) ≡ t → unless t path ≡ Passed → length p ≤ entries_max
    go true q e =
        let some = and_both (leb 1 (length p)) (eqb (length p % 2) 0 && leb (length p) entries_max) q in
        leb-true (length p) entries_max (and_both (eqb (length p % 2) 0) (leb (length p) entries_max) some.1).1
    go false q e = not_passed e

pub small_verdict : (p : List ℤ) (columns rows j : ℕ) → Small entries_max (verdict p columns rows j)
small_verdict p columns rows j =
    small_then entries_max (path_verdict p) (raster_verdict columns rows then row_verdict rows j then coordinate_verdict p) (small_unless (is_length (length p)) path entries_max (omega arith) (omega arith))
    (λ e. small_then entries_max (raster_verdict columns rows) (row_verdict rows j then coordinate_verdict p) (small_unless (is_size columns && is_size rows) raster entries_max (omega arith) (omega arith))
    (λ _. small_then entries_max (row_verdict rows j) (coordinate_verdict p) (small_unless (ltb j rows) row entries_max (omega arith) (omega arith)) (λ _. small_coordinate p (path_short p e))))

-- the setting's too: its number is 1
pub small_setting : (c : Checked) (m : ℕ) → Small m (checked_verdict c)
small_setting (checked·.Taken σ) m = tt
small_setting checked·.Refused m = (omega arith, omega arith, omega arith)
