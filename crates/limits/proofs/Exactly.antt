-- What checks answer, held against the table of refusals: each check says when it refuses, and one after the other they give the first that applies.
use Prim.Native.Nat.{ℕ, suc}
use native.Mathlib.Omega.{arith}
use mathlib.Core.Path.{◌≡◌, refl, sym, ◌∙◌}
use mathlib.Core.Logic.{◌⊎◌, inl, inr, ◌↔◌}
use mathlib.Core.Bool.{Bool, true, false, cond}
use Rattle.limits.specs.declared.Verdict.{Verdict}
use Rattle.limits.specs.declared.Verdict.TheVariants.{Passed, Refused}
use Rattle.limits.specs.Refusal.{Refusal, number, unless, ◌then◌}
use Rattle.limits.specs.Exactly.{◌when◌else◌, done}

-- ---- the table of refusals, one line at a time: x is the number told
-- it is the number of the first that applies
pub applies_here : {n x : ℕ} {applies : Type 0} (rest : ℕ → Type 0) → applies → x ≡ n → (k : ℕ) → (x ≡ k) ↔ (n when applies else rest) k
applies_here rest h e k = ((λ q. inl (h, sym q ∙ e)), λ s. elim s [ inl a ↦ e ∙ sym a.1 | inr b ↦ absurd (b.0 h) ])

-- where that does not apply, the rest tells
pub applies_later : {n x : ℕ} {applies : Type 0} {rest : ℕ → Type 0} → ¬ applies → ((k : ℕ) → (x ≡ k) ↔ rest k) → (k : ℕ) → (x ≡ k) ↔ (n when applies else rest) k
applies_later h f k = ((λ q. inr (h, (f k).0 q)), λ s. elim s [ inl a ↦ absurd (h a.0) | inr b ↦ (f k).1 b.1 ])

-- where none applies it is 0
pub applies_none : {x : ℕ} → x ≡ 0 → (k : ℕ) → (x ≡ k) ↔ done k
applies_none e k = ((λ q. sym q ∙ e), λ q. e ∙ sym q)

-- a test that is passed exactly when something applies; `told` is the number of what the test chooses
pub tested : {A : Type 0} (told : A → ℕ) (t : Bool) {yes no : A} {n : ℕ} {applies : Type 0} {rest : ℕ → Type 0} → told yes ≡ n →
    (t ≡ true → applies) → (t ≡ false → ¬ applies) → ((k : ℕ) → (told no ≡ k) ↔ rest k) → (k : ℕ) → (told (cond t yes no) ≡ k) ↔ (n when applies else rest) k
tested told true e y z f = applies_here _ (y refl) e
tested told false e y z f = applies_later (z refl) f

-- what 0 says of the first refusal, with any number but 0: it does not apply, and the rest says 0
pub zero_later : {n : ℕ} {applies rest : Type 0} → (applies × (0 ≡ suc n)) ⊎ (¬ applies × rest) → ¬ applies × rest
zero_later (inl a) = absurd (omega (arith, a.1))
zero_later (inr b) = b

-- ---- verdicts
-- the number of a verdict: 0 where nothing is refused
abbrev pub number_of : Verdict → ℕ
number_of Passed = 0
number_of (Refused n place) = n

abbrev pub place_of : Verdict → ℕ
place_of Passed = 0
place_of (Refused n place) = place

-- a check refuses with the number n exactly when something applies
pub data Says (v : Verdict) (n : ℕ) (applies : Type 0) : Type 0 where
  passes : v ≡ Passed → ¬ applies → Says v n applies
  refuses : (place : ℕ) → v ≡ Refused n place → applies → Says v n applies

-- a test that is passed exactly when nothing applies
pub unless_says : (t : Bool) (r : Refusal) (applies : Type 0) → (t ≡ true → ¬ applies) → (t ≡ false → applies) → Says (unless t r) (number r) applies
unless_says true r applies f g = passes refl (f refl)
unless_says false r applies f g = refuses 0 refl (g refl)

-- the last check
pub says_last : {v : Verdict} {n : ℕ} {applies : Type 0} → Says v n applies → (k : ℕ) → (number_of v ≡ k) ↔ (n when applies else done) k
says_last (passes e h) k = rw e (applies_later h (applies_none refl) k)
says_last (refuses place e h) k = rw e (applies_here done h refl k)

-- one check before others
pub says_first : {v : Verdict} {n : ℕ} {applies : Type 0} → Says v n applies → (w : Verdict) (rest : ℕ → Type 0) → ((k : ℕ) → (number_of w ≡ k) ↔ rest k) →
    (k : ℕ) → (number_of (v then w) ≡ k) ↔ (n when applies else rest) k
says_first (passes e h) w rest f k = rw e (applies_later h f k)
says_first (refuses place e h) w rest f k = rw e (applies_here rest h refl k)

-- two checks with one number
pub says_both : {v w : Verdict} {n : ℕ} {A B : Type 0} → Says v n A → Says w n B → Says (v then w) n (A ⊎ B)
says_both (passes e h) (passes f k) = rw (e, f) (passes refl (λ s. elim s [ inl a ↦ h a | inr b ↦ k b ]))
says_both (passes e h) (refuses place f k) = rw (e, f) (refuses place refl (inr k))
says_both (refuses place e h) t = rw e (refuses place refl (inl h))
