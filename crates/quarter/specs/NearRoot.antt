-- Document 01, "Building the pen": the near root.
use Rattle.std.specs.Prelude.{ℕ, zero, suc, ◌+◌, ◌*◌, ◌-◌, ◌^◌, ◌≤◌, ◌<◌, true, false, leb}
use Rattle.setting.specs.declared.Setting.{Setting}

-- p²v² + q²u²
unfoldable pub norm : Setting → ℕ → ℕ → ℕ
norm σ u v = σ.p * σ.p * (v * v) + σ.q * σ.q * (u * u)

-- "'Near root' of (u, v) is the whole m with 64q²(2m-1)² <= w²(p²v²+q²u²) < 64q²(2m+1)²"
-- (it is at least 1, so that 2m - 1 is no less than document 01's)
pub record NearRoot (σ : Setting) (u v m : ℕ) : Type 0 where
  pub positive : 1 ≤ m
  pub least : 64 * (σ.q * σ.q) * ((2 * m - 1) * (2 * m - 1)) ≤ σ.w * σ.w * norm σ u v
  pub most : σ.w * σ.w * norm σ u v < 64 * (σ.q * σ.q) * ((2 * m + 1) * (2 * m + 1))

-- 64q²(2m-1)², the lower end of the range in which the near root is m
unfoldable pub lower : Setting → ℕ → ℕ
lower σ m = 64 * (σ.q * σ.q) * ((2 * m - 1) * (2 * m - 1))

-- m + h where f is at most t there, else m
unfoldable pub tried : (ℕ → ℕ) → ℕ → ℕ → ℕ → ℕ
tried f t m h = elim (leb (f (m + h)) t) [ true ↦ m + h | false ↦ m ]

-- the greatest number from m to m + 2^k - 1 at which f is at most t, by halves, for a rising f
unfoldable pub bisect : (ℕ → ℕ) → ℕ → ℕ → ℕ → ℕ
bisect f t zero m = m
bisect f t (suc k) m = bisect f t k (tried f t m (2 ^ k))

-- the near root as a number that computes: `near_root_ok` and `near_root_one` of proofs/NearRoot say that it is the one
unfoldable pub near_root : Setting → ℕ → ℕ → ℕ
near_root σ u v = bisect (lower σ) (σ.w * σ.w * norm σ u v) 12 0
