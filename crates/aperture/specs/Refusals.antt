-- What defining, removing and looking up promise of their refusals, in the words of document 01's table, with its numbers written out. Each claim is a type;
-- proofs/Refusals.antt proves it under the same name.
use Rattle.std.specs.Prelude.{ℕ, ◌<◌, ◌≡◌, ◌⊎◌, ◌↔◌, true, false}
use Rattle.limits.specs.Exactly.{◌when◌else◌, done}
use Rattle.setting.specs.declared.Setting.{Setting}
use Rattle.setting.specs.Exactly.{BadSetting}
use Rattle.aperture.specs.declared.Table.{Table}
use Rattle.aperture.specs.Table.{place_of, defined, removed}

-- "aperture number outside 10 to 41"
abbrev pub NoNumber : ℕ → Type 0
NoNumber n = (n < 10) ⊎ (41 < n)

-- 6: "aperture number outside 10 to 41, or empty where a pen is needed or removed"
abbrev pub NoPen : Table → ℕ → Type 0
NoPen t n = NoNumber n ⊎ ((place_of t n).used ≡ false)

-- "Defining checks number (6), setting (1), in use (8). The first that applies is the answer"; 8: "defining an aperture that is in use"
abbrev pub DefineRefuses : Type 0
DefineRefuses =
    (t : Table) (n : ℕ) (σ : Setting) (k : ℕ) → ((defined t n σ).refusal ≡ k) ↔ (6 when NoNumber n else 1 when BadSetting σ else 8 when ((place_of t n).used ≡ true) else done) k

abbrev pub RemoveRefuses : Type 0
RemoveRefuses = (t : Table) (n k : ℕ) → ((removed t n).refusal ≡ k) ↔ (6 when NoPen t n else done) k
