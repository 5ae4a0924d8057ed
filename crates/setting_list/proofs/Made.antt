-- What the table of a drawing holds: every setting so far stands in it, and no aperture after them is in use.
use Prim.Native.Nat.{ℕ, zero, suc, ◌+◌, ◌-◌, ◌≤◌, ◌<◌}
use native.Mathlib.Omega.{arith}
use mathlib.Core.Path.{◌≡◌, refl, sym, ap, subst, ◌∙◌}
use mathlib.Core.Logic.{◌⊎◌, inl, inr}
use mathlib.Core.Bool.{Bool, true, false}
use mathlib.Core.List.{List}
use lib.Dec.{eqb}
use lib.ListN.{get_or, replicate}
use borrow.Author.Tests.{eqb-true, eqb-false, eq-eqb, ne_eqb}
use Rattle.integers.proofs.Tests.{clash}
use Rattle.limits.specs.Sizes.{aperture_min, places}
use Rattle.limits.specs.declared.Verdict.TheVariants.{Passed, Refused}
use Rattle.limits.proofs.Verdicts.{not_passed, NotZero}
use Rattle.limits.proofs.Exactly.{Says, passes, refuses}
use Rattle.setting.specs.declared.Setting.{Setting}
use Rattle.setting.specs.Setting.{taken}
use Rattle.setting.specs.Answer.{checked, checked_verdict}
use Rattle.setting.specs.Exactly.{BadSetting}
use Rattle.setting.proofs.Limits.{taken_iff}
use Rattle.setting.proofs.Answers.{accepted}
use Rattle.setting.proofs.Exactly.{setting_says}
use Rattle.aperture.specs.declared.Place.{Place}
use Rattle.aperture.specs.declared.Table.{Table}
use Rattle.aperture.specs.Table.{vacant, empty, place_of, is_number, defined}
use Rattle.aperture.specs.Reachable.{Reachable, starts, defines, Holds}
use Rattle.aperture.specs.Refusals.{NoNumber}
use Rattle.aperture.proofs.Numbers.{number_iff}
use Rattle.aperture.proofs.Theorems.{defined_parts, others_kept}
use Rattle.aperture.proofs.Delivered.{defined_gives, defining_keeps}
use Rattle.aperture.proofs.Refusals.{define_refuses}
use Rattle.setting_list.specs.Settings.{setting_at, setting_count, Tabled, tabled_from, table_of, tabled_verdict}
use Rattle.setting_list.specs.Theorems.{GoodSetting, FirstBadSetting, MadeTable, TableMade, SettingTold, good, bad, SettingsTold}
use Rattle.setting_list.proofs.Defined.{none_left, next_defined, next_refused}

-- the first i settings of the list stand in the table, and no later aperture is in use
pub record Begun (l : List ℕ) (i : ℕ) (t : Table) : Type 0 where
  pub reachable : Reachable t
  pub holds : (m : ℕ) → m < i → Holds t (10 + m) (setting_at l m)
  pub free : (m : ℕ) → i ≤ m → is_number (10 + m) ≡ true → (place_of t (10 + m)).used ≡ false

-- how it ended: with all n settings, or at one that is refused
pub data Ended (l : List ℕ) (n : ℕ) (r : Tabled) : Type 0 where
  whole : r.refusal ≡ 0 → Begun l n r.table → Ended l n r
  broken : (i : ℕ) (t : Table) → i < n → Begun l i t → ¬ ((defined t (10 + i) (setting_at l i)).refusal ≡ 0) →
      r ≡ record { refusal = (defined t (10 + i) (setting_at l i)).refusal; place = i; table = empty } → Ended l n r

pub none_free : (k i : ℕ) → (get_or (replicate k vacant) i vacant).used ≡ false
none_free zero i = refl
none_free (suc k) zero = refl
none_free (suc k) (suc i) = none_free k i

module _ (l : List ℕ) where
  pub begin : Begun l 0 empty
  begin = record { reachable = starts; holds = λ m h. absurd (omega arith); free = λ m h k. none_free places (10 + m - aperture_min) }

  -- one setting more
  module _ (i : ℕ) (t : Table) (b : Begun l i t) where
    abbrev next : Table
    next = (defined t (10 + i) (setting_at l i)).table

    pub more : (defined t (10 + i) (setting_at l i)).refusal ≡ 0 → Begun l (suc i) next
    more e = record { reachable = defines (10 + i) (setting_at l i) b.reachable; holds = there; free = later }
      where
        there : (m : ℕ) → m < suc i → Holds next (10 + m) (setting_at l m)
        there m h = go (eqb m i) refl
          where
            go : (x : Bool) → eqb m i ≡ x → Holds next (10 + m) (setting_at l m)
            go true q = subst (λ (k : ℕ). Holds next (10 + k) (setting_at l k)) (sym (eqb-true m i q)) (defined_gives t b.reachable (10 + i) (setting_at l i) e)
            go false q = defining_keeps t (10 + m) (10 + i) (setting_at l m) (setting_at l i) (b.holds m (omega (arith, eqb-false m i q)))

        later : (m : ℕ) → suc i ≤ m → is_number (10 + m) ≡ true → (place_of next (10 + m)).used ≡ false
        later m h k =
            ap (λ (p : Place). p.used) (others_kept t (10 + i) (10 + m) (setting_at l i) (defined_parts t (10 + i) (setting_at l i) e).0 k (λ z. omega (arith, z))).0
            ∙ b.free m (omega arith) k

  ended : (n i m : ℕ) (t : Table) → i + n ≡ m → Begun l i t → Ended l m (tabled_from l i n t)
  ended zero i m t e b =
      let n : i ≡ m = omega (arith, e) in
      subst (Ended l m) (none_left l i t) (whole refl (subst (λ (k : ℕ). Begun l k t) n b))
  ended (suc n) i m t e b = go (eqb (defined t (10 + i) (setting_at l i)).refusal 0) refl (ended n (suc i) m (next i t b) (omega (arith, e)))
    where
      go : (x : Bool) → eqb (defined t (10 + i) (setting_at l i)).refusal 0 ≡ x →
          (Begun l (suc i) (next i t b) → Ended l m (tabled_from l (suc i) n (next i t b))) → Ended l m (tabled_from l i (suc n) t)
      go true q r = let z = eqb-true _ 0 q in subst (Ended l m) (sym (next_defined l i t n z)) (r (more i t b z))
      go false q r = let z = eqb-false _ 0 q in broken i t (omega (arith, e)) b z (next_refused l i t n z)

-- ---- what a setting that stands in the table is, and one that is refused
number_good : (n : ℕ) → is_number n ≡ true → ¬ NoNumber n
number_good n e b = let k = (number_iff n).0 e in elim b [ inl h ↦ omega (arith, h, k.0) | inr h ↦ omega (arith, h, k.1) ]

number_back : (n : ℕ) → ¬ NoNumber n → is_number n ≡ true
number_back n h =
    let low : ¬ (n < 10) = λ z. h (inl z) in
    let high : ¬ (41 < n) = λ z. h (inr z) in
    (number_iff n).1 (omega arith, omega arith)

setting_good : (σ : Setting) → taken σ ≡ true → ¬ BadSetting σ
setting_good σ e = go (setting_says σ)
  where
    go : Says (checked_verdict (checked σ)) 1 (BadSetting σ) → ¬ BadSetting σ
    go (passes q h) = h
    go (refuses place q h) = not_passed (sym q ∙ ap checked_verdict (sym (accepted σ e)))

held_good : (l : List ℕ) (i : ℕ) {t : Table} → Holds t (10 + i) (setting_at l i) → GoodSetting l i
held_good l i h = record { number = number_good (10 + i) h.number; limits = setting_good (setting_at l i) ((taken_iff (setting_at l i)).1 h.taken) }

-- an aperture that is not in use is never refused with 8
refused_with : (l : List ℕ) (i : ℕ) (t : Table) → Begun l i t → ¬ ((defined t (10 + i) (setting_at l i)).refusal ≡ 0) →
    let n = (defined t (10 + i) (setting_at l i)).refusal in
    (NoNumber (10 + i) × (n ≡ 6)) ⊎ (¬ NoNumber (10 + i) × (BadSetting (setting_at l i) × (n ≡ 1)))
refused_with l i t b h = elim ((define_refuses t (10 + i) (setting_at l i) _).0 refl) [
  | inl x ↦ inl x
  | inr x ↦ elim x.1 [
    | inl y ↦ inr (x.0, y)
    | inr y ↦ elim y.1 [
      | inl z ↦ absurd (clash z.0 (b.free i (omega arith) (number_back (10 + i) x.0)))
      | inr z ↦ absurd (h z.1)
    ]
  ]
]

-- how the whole list ends
pub table_ended : (l : List ℕ) → Ended l (setting_count l) (table_of l)
table_ended l = ended l (setting_count l) 0 (setting_count l) empty (omega arith) (begin l)

-- setting i, the first that is refused
first_bad : (l : List ℕ) (i : ℕ) (t : Table) → i < setting_count l → Begun l i t → ¬ ((defined t (10 + i) (setting_at l i)).refusal ≡ 0) →
    FirstBadSetting l (defined t (10 + i) (setting_at l i)).refusal i
first_bad l i t h b n = record { one = h; earlier = λ m k. held_good l m (b.holds m k); exactly = refused_with l i t b n }

pub table_made : TableMade
table_made l = go (table_ended l)
  where
    made : (i : ℕ) (t : Table) → i < setting_count l → Begun l i t → ¬ ((defined t (10 + i) (setting_at l i)).refusal ≡ 0) →
        MadeTable l (record { refusal = (defined t (10 + i) (setting_at l i)).refusal; place = i; table = empty })
    made i t h b n = record { reachable = starts; holds = λ z. absurd (n z); refused = λ z. first_bad l i t h b n; none = λ z. refl }

    go : Ended l (setting_count l) (table_of l) → MadeTable l (table_of l)
    go (whole e b) = record { reachable = b.reachable; holds = λ z. b.holds; refused = λ h. absurd (h e); none = λ h. absurd (h e) }
    go (broken i t h b n q) = subst (MadeTable l) (sym q) (made i t h b n)

-- ---- what is refused of it
pub tabled_passed : (r : Tabled) → r.refusal ≡ 0 → tabled_verdict r ≡ Passed
tabled_passed r e = rw (tabled_verdict, eq-eqb r.refusal 0 e)

pub tabled_refused : (r : Tabled) → ¬ (r.refusal ≡ 0) → tabled_verdict r ≡ Refused r.refusal r.place
tabled_refused r e = rw (tabled_verdict, ne_eqb r.refusal 0 e)

pub settings_told : SettingsTold
settings_told l = go (eqb (table_of l).refusal 0) refl
  where
    go : (x : Bool) → eqb (table_of l).refusal 0 ≡ x → SettingTold l (tabled_verdict (table_of l))
    go true q =
        let e = eqb-true (table_of l).refusal 0 q in
        subst (SettingTold l) (sym (tabled_passed (table_of l) e)) (good (λ i h. held_good l i ((table_made l).holds e i h)))
    go false q =
        let e = eqb-false (table_of l).refusal 0 q in
        subst (SettingTold l) (sym (tabled_refused (table_of l) e)) (bad (table_of l).refusal (table_of l).place ((table_made l).refused e))

-- a refusal of the settings is never 0
pub settings_not_zero : (l : List ℕ) → NotZero (tabled_verdict (table_of l))
settings_not_zero l = go (eqb (table_of l).refusal 0) refl
  where
    go : (x : Bool) → eqb (table_of l).refusal 0 ≡ x → NotZero (tabled_verdict (table_of l))
    go true q = subst NotZero (sym (tabled_passed (table_of l) (eqb-true (table_of l).refusal 0 q))) tt
    go false q = let e = eqb-false (table_of l).refusal 0 q in subst NotZero (sym (tabled_refused (table_of l) e)) (omega (arith, e))
