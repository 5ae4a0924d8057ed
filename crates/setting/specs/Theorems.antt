-- What is proved of a setting. Each claim is a type; proofs/Theorems.antt proves it under the same name.
use Rattle.std.specs.Prelude.{ℕ, ◌+◌, ◌*◌, ◌≤◌, ◌<◌, ◌≡◌, ◌↔◌, true}
use Rattle.setting.specs.declared.Setting.{Setting}
use Rattle.setting.specs.Setting.{Taken, taken, Dx, Dy}

-- the test of the limits is passed exactly where all of them hold, so that refusal 1 is given exactly when one does not
abbrev pub TakenIff : Type 0
TakenIff = (σ : Setting) → (taken σ ≡ true) ↔ Taken σ

-- "Dy is floor((w+8)/16)": the only whole number m with 16m <= w + 8 < 16m + 16. So w/16 pixels go to the nearest whole number, and a half goes up
abbrev pub DyFloor : Type 0
DyFloor = (σ : Setting) (m : ℕ) → (m ≡ Dy σ) ↔ ((16 * m ≤ σ.w + 8) × (σ.w + 8 < 16 * m + 16))

-- "Dx is floor((w*p+8q)/(16q))": the only whole number m with 16qm <= wp + 8q < 16qm + 16q
abbrev pub DxFloor : Type 0
DxFloor = (σ : Setting) → 1 ≤ σ.q → (m : ℕ) → (m ≡ Dx σ) ↔ ((16 * σ.q * m ≤ σ.w * σ.p + 8 * σ.q) × (σ.w * σ.p + 8 * σ.q < 16 * σ.q * m + 16 * σ.q))
