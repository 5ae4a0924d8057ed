-- Refusal 1 in document 01's words, with its numbers written out: "setting outside the limits above", which are "width w in sixteenths, 16 to 512; aspect p/q
-- with p and q each 1 to 16; and 16q <= w*p <= 512q".
use Rattle.std.specs.Prelude.{ℕ, ◌*◌, ◌<◌, ◌⊎◌}
use Rattle.setting.specs.declared.Setting.{Setting}

-- x is not from low to high
abbrev pub Outside : ℕ → ℕ → ℕ → Type 0
Outside x low high = (x < low) ⊎ (high < x)

abbrev pub BadSetting : Setting → Type 0
BadSetting σ = Outside σ.w 16 512 ⊎ (Outside σ.p 1 16 ⊎ (Outside σ.q 1 16 ⊎ Outside (σ.w * σ.p) (16 * σ.q) (512 * σ.q)))
