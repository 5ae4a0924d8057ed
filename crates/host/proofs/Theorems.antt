-- The claim of specs/Theorems.antt, under its name there in small letters.
use Prim.Native.Nat.{ℕ, zero, suc, ◌+◌, ◌*◌, ◌<◌}
use mathlib.Core.Path.{◌≡◌, refl}
use mathlib.Core.List.{List, [], ◌∷◌}
use native.Mathlib.Omega.{arith}
use lib.ListN.{length, get_or}
use Rattle.stroke.specs.Runs.{Run}
use Rattle.wire.specs.Theorems.{AreBytes}
use Rattle.host.specs.Host.{run_bytes}
use Rattle.host.specs.Theorems.{run_at, TwoByteRun, RunBytesAre}

runs_long : (rs : List Run) → length (run_bytes rs) ≡ 4 * length rs
runs_long [] = refl
runs_long (r ∷ rs) = omega (arith, runs_long rs)

-- a column below 65,536 has two bytes, and both are below 256
runs_small : (rs : List Run) → ((k : ℕ) → k < length rs → TwoByteRun (run_at rs k)) → AreBytes (run_bytes rs)
runs_small [] small i h = absurd (omega arith)
runs_small (r ∷ rs) small zero h = omega (arith, small 0 (omega arith))
runs_small (r ∷ rs) small (suc zero) h = omega (arith, small 0 (omega arith))
runs_small (r ∷ rs) small (suc (suc zero)) h = omega (arith, small 0 (omega arith))
runs_small (r ∷ rs) small (suc (suc (suc zero))) h = omega (arith, small 0 (omega arith))
runs_small (r ∷ rs) small (suc (suc (suc (suc i)))) h = runs_small rs (λ k m. small (suc k) (omega arith)) i (omega arith)

-- what two bytes count, by their places
abbrev two : List ℕ → ℕ → ℕ → ℕ
two l i j = get_or l i 0 + 256 * get_or l j 0

-- the bytes of run k stand behind those of the k runs before it
columns : (rs : List Run) (k : ℕ) → k < length rs →
    (two (run_bytes rs) (4 * k) (4 * k + 1) ≡ (run_at rs k).left) × (two (run_bytes rs) (4 * k + 2) (4 * k + 3) ≡ (run_at rs k).right)
columns [] k h = absurd (omega arith)
columns (r ∷ rs) zero h = (omega arith, omega arith)
columns (r ∷ rs) (suc k) h =
    let a : 4 * suc k ≡ suc (suc (suc (suc (4 * k)))) = omega arith in
    let b : 4 * suc k + 1 ≡ suc (suc (suc (suc (4 * k + 1)))) = omega arith in
    let c : 4 * suc k + 2 ≡ suc (suc (suc (suc (4 * k + 2)))) = omega arith in
    let d : 4 * suc k + 3 ≡ suc (suc (suc (suc (4 * k + 3)))) = omega arith in
    rw (d, c, b, a) (columns rs k (omega arith))

pub run_bytes_are : RunBytesAre
run_bytes_are rs small = record {
  four_each = runs_long rs;
  bytes_all = runs_small rs small;
  left = λ k h. (columns rs k h).0;
  right = λ k h. (columns rs k h).1;
}
