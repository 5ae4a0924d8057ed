-- The claims of specs/Reachable.antt, each under its name there, and what the next crate needs of a place that is looked up.
--
-- Each call either refuses, and keeps the table, or stores one place: the claims follow from that alone (`defined_case`, `removed_case`).
use Prim.Native.Nat.{ℕ, zero, suc, ◌-◌, ◌<◌}
use mathlib.Core.Path.{◌≡◌, refl, sym, ap, subst, ◌∙◌}
use mathlib.Core.Logic.{◌⊎◌, inl, inr}
use mathlib.Core.Bool.{Bool, true, false}
use mathlib.Core.List.{List, [], ◌∷◌}
use native.Mathlib.Omega.{arith}
use lib.ListN.{length, get_or, set, replicate, length-set, length-replicate}
use lib.Seq.{get_or-set_same, get_or-set_other}
use Rattle.setting.specs.declared.Setting.{Setting}
use Rattle.limits.specs.Refusal.{Refusal, number, aperture, setting, in_use, refuse}
use Rattle.limits.specs.Sizes.{aperture_min, places}
use Rattle.limits.specs.declared.Verdict.TheVariants.{Passed}
use Rattle.setting.specs.Setting.{Taken, taken}
use Rattle.setting.proofs.Limits.{taken_iff}
use Rattle.aperture.specs.declared.Place.{Place}
use Rattle.aperture.specs.declared.Table.{Table}
use Rattle.aperture.specs.declared.Changed.{Changed}
use Rattle.aperture.specs.declared.Looked.TheVariants as looked·
use Rattle.aperture.specs.Table.{vacant, holding, is_number, is_held, place_of, with_place, changed, defined, removed, looked}
use Rattle.aperture.specs.Reachable.{Reachable, starts, defines, removes, Sound, nothing, some, ReachableSound, DefinedHolds, RemovedVacant, OthersKept, RefusalKeeps, RemovedAgain}
use Rattle.aperture.proofs.Numbers.{index_small, index_other, held_parts}
use Rattle.aperture.proofs.Answers.{not_number, not_taken, not_free, stores, not_held, empties, looks_nowhere, looks_at}

-- ---- the cases of a call
-- the call refuses, and its table is the one that it was given
record Refuses (t : Table) (c : Changed) : Type 0 where
  says : ¬ (c.refusal ≡ 0)
  keeps : c.table ≡ t

-- all three checks are passed, and the place of the number is the setting's
record Defines (t : Table) (n : ℕ) (σ : Setting) : Type 0 where
  is_number_lem : is_number n ≡ true
  is_taken : taken σ ≡ true
  gives : defined t n σ ≡ changed Passed (with_place t n (holding σ)) t

-- the aperture is in use, and its place becomes vacant
record Removes (t : Table) (n : ℕ) : Type 0 where
  is_number_lem : is_number n ≡ true
  gives : removed t n ≡ changed Passed (with_place t n vacant) t

refuses : {t : Table} (u : Table) {c : Changed} (r : Refusal) → ¬ (number r ≡ 0) → c ≡ changed (refuse r 0) u t → Refuses t c
refuses u r h e = record { says = λ z. h (sym (ap (λ (k : Changed). k.refusal) e) ∙ z); keeps = ap (λ (k : Changed). k.table) e }

defined_case : (t : Table) (n : ℕ) (σ : Setting) → Refuses t (defined t n σ) ⊎ Defines t n σ
defined_case t n σ = go (is_number n) (taken σ) (place_of t n).used refl refl refl
  where
    go : (a b u : Bool) → is_number n ≡ a → taken σ ≡ b → (place_of t n).used ≡ u → Refuses t (defined t n σ) ⊎ Defines t n σ
    go false b u e f g = inl (refuses (with_place t n (holding σ)) aperture (λ z. omega arith) (not_number t n σ e))
    go true false u e f g = inl (refuses (with_place t n (holding σ)) setting (λ z. omega arith) (not_taken t n σ e f))
    go true true true e f g = inl (refuses (with_place t n (holding σ)) in_use (λ z. omega arith) (not_free t n σ e f g))
    go true true false e f g = inr record { is_number_lem = e; is_taken = f; gives = stores t n σ e f g }

removed_case : (t : Table) (n : ℕ) → Refuses t (removed t n) ⊎ Removes t n
removed_case t n = go (is_held t n) refl
  where
    go : (h : Bool) → is_held t n ≡ h → Refuses t (removed t n) ⊎ Removes t n
    go false e = inl (refuses (with_place t n vacant) aperture (λ z. omega arith) (not_held t n e))
    go true e = inr record { is_number_lem = (held_parts t n e).0; gives = empties t n e }

-- a call that says 0 has not refused
defined_done : (t : Table) (n : ℕ) (σ : Setting) → (defined t n σ).refusal ≡ 0 → Defines t n σ
defined_done t n σ z = elim (defined_case t n σ) [ inl k ↦ absurd (k.says z) | inr d ↦ d ]

removed_done : (t : Table) (n : ℕ) → (removed t n).refusal ≡ 0 → Removes t n
removed_done t n z = elim (removed_case t n) [ inl k ↦ absurd (k.says z) | inr d ↦ d ]

pub defined_parts : (t : Table) (n : ℕ) (σ : Setting) → (defined t n σ).refusal ≡ 0 → (is_number n ≡ true) × (taken σ ≡ true)
defined_parts t n σ z = let d = defined_done t n σ z in (d.is_number_lem, d.is_taken)

defined_table : {t : Table} {n : ℕ} {σ : Setting} → Defines t n σ → (defined t n σ).table ≡ with_place t n (holding σ)
defined_table d = ap (λ (k : Changed). k.table) d.gives

removed_table : {t : Table} {n : ℕ} → Removes t n → (removed t n).table ≡ with_place t n vacant
removed_table d = ap (λ (k : Changed). k.table) d.gives

-- what holds of the table given and of the table with the place stored, holds of the call's table
defined_either : (P : Table → Type 0) (t : Table) (n : ℕ) (σ : Setting) → P t → (Defines t n σ → P (with_place t n (holding σ))) → P (defined t n σ).table
defined_either P t n σ p f = elim (defined_case t n σ) [ inl k ↦ subst P (sym k.keeps) p | inr d ↦ subst P (sym (defined_table d)) (f d) ]

removed_either : (P : Table → Type 0) (t : Table) (n : ℕ) → P t → (Removes t n → P (with_place t n vacant)) → P (removed t n).table
removed_either P t n p f = elim (removed_case t n) [ inl k ↦ subst P (sym k.keeps) p | inr d ↦ subst P (sym (removed_table d)) (f d) ]

pub refusal_keeps : RefusalKeeps
refusal_keeps t n σ = (
  (λ h. elim (defined_case t n σ) [ inl k ↦ k.keeps | inr d ↦ absurd (h (ap (λ (k : Changed). k.refusal) d.gives)) ]),
  λ h. elim (removed_case t n) [ inl k ↦ k.keeps | inr d ↦ absurd (h (ap (λ (k : Changed). k.refusal) d.gives)) ],
)

-- ---- the places of a reachable table
-- no call changes how many places there are, so that the place of every number is one of them
pub reachable_long : {t : Table} → Reachable t → length t.places ≡ places
reachable_long starts = length-replicate places vacant
reachable_long (defines {t} n σ r) = defined_either (λ u. length u.places ≡ places) t n σ (reachable_long r) (λ d. length-set t.places (n - aperture_min) (holding σ) ∙ reachable_long r)
reachable_long (removes {t} n r) = removed_either (λ u. length u.places ≡ places) t n (reachable_long r) (λ d. length-set t.places (n - aperture_min) vacant ∙ reachable_long r)

-- a list of one place only has that place everywhere, past its end too
all_alike : (k i : ℕ) (p : Place) → get_or (replicate k p) i p ≡ p
all_alike zero i p = refl
all_alike (suc k) zero p = refl
all_alike (suc k) (suc i) p = all_alike k i p

-- what holds of the place that is stored and of a place that stood there, holds of the one that stands there now
set_keeps : (P : Place → Type 0) (l : List Place) (i j : ℕ) {a : Place} → P a → P (get_or l j vacant) → P (get_or (set l i a) j vacant)
set_keeps P [] i j p q = q
set_keeps P (x ∷ xs) zero zero p q = p
set_keeps P (x ∷ xs) zero (suc j) p q = q
set_keeps P (x ∷ xs) (suc i) zero p q = q
set_keeps P (x ∷ xs) (suc i) (suc j) p q = set_keeps P xs i j p q

-- a stored place is vacant, or of a setting that passed the check; every other place was sound before
sound : {t : Table} → Reachable t → (m : ℕ) → Sound (place_of t m)
sound starts m = subst Sound (sym (all_alike places (m - aperture_min) vacant)) nothing
sound (defines {t} n σ r) m =
    defined_either (λ u. Sound (place_of u m)) t n σ (sound r m) (λ d. set_keeps Sound t.places (n - aperture_min) (m - aperture_min) (some ((taken_iff σ).0 d.is_taken)) (sound r m))
sound (removes {t} n r) m = removed_either (λ u. Sound (place_of u m)) t n (sound r m) (λ d. set_keeps Sound t.places (n - aperture_min) (m - aperture_min) nothing (sound r m))

pub reachable_sound : ReachableSound
reachable_sound t r m = sound r m

-- ---- what a call does to its own place, and to the others
own_place : {t : Table} → Reachable t → (n : ℕ) (p : Place) → is_number n ≡ true → place_of (with_place t n p) n ≡ p
own_place {t} r n p e = get_or-set_same t.places (n - aperture_min) p vacant (subst (λ (k : ℕ). n - aperture_min < k) (sym (reachable_long r)) (index_small n e))

pub defined_holds : DefinedHolds
defined_holds t r n σ z = let d = defined_done t n σ z in ap (λ (u : Table). place_of u n) (defined_table d) ∙ own_place r n (holding σ) d.is_number_lem

pub removed_vacant : RemovedVacant
removed_vacant t r n z = let d = removed_done t n z in ap (λ (u : Table). place_of u n) (removed_table d) ∙ own_place r n vacant d.is_number_lem

pub others_kept : OthersKept
others_kept t n m σ e f h =
    let other : (p : Place) → place_of (with_place t n p) m ≡ place_of t m = λ p. get_or-set_other t.places (n - aperture_min) (m - aperture_min) p vacant (index_other n m e f h) in (
      defined_either (λ u. place_of u m ≡ place_of t m) t n σ refl (λ d. other (holding σ)),
      removed_either (λ u. place_of u m ≡ place_of t m) t n refl (λ d. other vacant),
    )

pub removed_again : RemovedAgain
removed_again t r n σ k z =
    let free = ap (λ (p : Place). p.used) (removed_vacant t r n z) in
    ap (λ (c : Changed). c.refusal) (stores (removed t n).table n σ (removed_done t n z).is_number_lem ((taken_iff σ).1 k) free)

-- ---- what looking up says
-- a place in use of a reachable table holds a setting within the limits, and that setting's pen
pub used_place : {p : Place} → Sound p → p.used ≡ true → (σ : Setting) × Taken σ × (p ≡ holding σ)
used_place nothing e = absurd (let z : ◌≡◌ {A = ℕ} 0 1 = cc in omega arith)
used_place (some {σ} k) e = (σ, k, refl)

looked_case : (t : Table) (n : ℕ) → ((is_held t n ≡ false) × (looked t n ≡ looked·.Refused)) ⊎ ((is_held t n ≡ true) × (looked t n ≡ looked·.At (n - aperture_min)))
looked_case t n = go (is_held t n) refl
  where
    go : (h : Bool) → is_held t n ≡ h → ((is_held t n ≡ false) × (looked t n ≡ looked·.Refused)) ⊎ ((is_held t n ≡ true) × (looked t n ≡ looked·.At (n - aperture_min)))
    go false e = inl (e, looks_nowhere t n e)
    go true e = inr (e, looks_at t n e)

-- what was answered says which of the two it was
pub looked_held : (t : Table) (n i : ℕ) → looked t n ≡ looked·.At i → (is_held t n ≡ true) × (n - aperture_min ≡ i)
looked_held t n i e = elim (looked_case t n) [ inl k ↦ absurd (let z : ◌≡◌ {A = ℕ} 0 1 = cc in omega arith) | inr k ↦ (k.0, cc) ]

-- the place is one of the table's, whatever the table holds
pub looked_small : (t : Table) (n i : ℕ) → looked t n ≡ looked·.At i → i < places
looked_small t n i e = let h = looked_held t n i e in subst (λ (j : ℕ). j < places) h.1 (index_small n (held_parts t n h.0).0)

pub looked_place : (t : Table) → Reachable t → (n i : ℕ) → looked t n ≡ looked·.At i → (σ : Setting) × Taken σ × (get_or t.places i vacant ≡ holding σ) × (i < places)
looked_place t r n i e =
    let h = looked_held t n i e in
    let b = held_parts t n h.0 in
    let k = used_place (sound r n) b.1 in
    (k.0, k.1, ap (λ (j : ℕ). get_or t.places j vacant) (sym h.1) ∙ k.2, looked_small t n i e)

pub looked_refused : (t : Table) (n : ℕ) → looked t n ≡ looked·.Refused → is_held t n ≡ false
looked_refused t n e = elim (looked_case t n) [ inl k ↦ k.0 | inr k ↦ absurd (let z : ◌≡◌ {A = ℕ} 0 1 = cc in omega arith) ]
