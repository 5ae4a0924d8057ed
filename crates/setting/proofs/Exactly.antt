-- The check of a setting held against its line of the table of refusals.
use mathlib.Core.Path.{◌≡◌, refl, sym, ap}
use mathlib.Core.Logic.{◌⊎◌, inl, inr}
use mathlib.Core.Bool.{Bool, true, false, ◌&&◌}
use Prim.Native.Nat.{ℕ, ◌*◌}
use native.Mathlib.Omega.{arith}
use borrow.Author.Tests.{leb-false}
use lib.Dec.{leb}
use Rattle.limits.specs.Sizes.{within, width_min, width_max, aspect_max}
use Rattle.limits.proofs.Exactly.{Says, passes, refuses}
use Rattle.setting.specs.declared.Setting.{Setting}
use Rattle.setting.specs.Setting.{taken}
use Rattle.setting.specs.Answer.{checked, checked_verdict}
use Rattle.setting.specs.Exactly.{Outside, BadSetting}
use Rattle.setting.proofs.Limits.{taken_iff}
use Rattle.setting.proofs.Answers.{refused, accepted}

-- a test of two limits that fails
within_fails : (x low high : ℕ) → within x low high ≡ false → Outside x low high
within_fails x low high e = go (leb low x) refl e
  where
    go : (t : Bool) → leb low x ≡ t → (t && leb x high) ≡ false → Outside x low high
    go false q e = inl (leb-false low x q)
    go true q e = inr (leb-false x high e)

either_fails : (a b : Bool) → (a && b) ≡ false → (a ≡ false) ⊎ (b ≡ false)
either_fails true b e = inr e
either_fails false b e = inl refl

bad_setting : (σ : Setting) → taken σ ≡ false → BadSetting σ
unfolding taken
bad_setting σ e = elim (either_fails (within σ.w width_min width_max) _ e) [
  | inl h ↦ inl (within_fails σ.w 16 512 h)
  | inr h ↦ elim (either_fails (within σ.p 1 aspect_max) _ h) [
    | inl k ↦ inr (inl (within_fails σ.p 1 16 k))
    | inr k ↦ elim (either_fails (within σ.q 1 aspect_max) _ k) [
      | inl l ↦ inr (inr (inl (within_fails σ.q 1 16 l)))
      | inr l ↦ inr (inr (inr (within_fails (σ.w * σ.p) (16 * σ.q) (512 * σ.q) l)))
    ]
  ]
]

good_setting : (σ : Setting) → taken σ ≡ true → ¬ BadSetting σ
good_setting σ e b =
    let t = (taken_iff σ).0 e in
    elim b [
      | inl h ↦ elim h [ inl l ↦ omega (arith, l, t.w_low) | inr l ↦ omega (arith, l, t.w_high) ]
      | inr c ↦ elim c [
        | inl h ↦ elim h [ inl l ↦ omega (arith, l, t.p_low) | inr l ↦ omega (arith, l, t.p_high) ]
        | inr d ↦ elim d [
          | inl h ↦ elim h [ inl l ↦ omega (arith, l, t.q_low) | inr l ↦ omega (arith, l, t.q_high) ]
          | inr h ↦ elim h [ inl l ↦ omega (arith, l, t.low) | inr l ↦ omega (arith, l, t.high) ]
        ]
      ]
    ]

pub setting_says : (σ : Setting) → Says (checked_verdict (checked σ)) 1 (BadSetting σ)
setting_says σ = go (taken σ) refl
  where
    go : (t : Bool) → taken σ ≡ t → Says (checked_verdict (checked σ)) 1 (BadSetting σ)
    go true e = passes (ap checked_verdict (sym (accepted σ e))) (good_setting σ e)
    go false e = refuses 0 (ap checked_verdict (sym (refused σ e))) (bad_setting σ e)
