-- The checks of the settings without a table, and the table: a setting is refused alike, and an aperture is held alike.
use Prim.Native.Nat.{ℕ, suc, ◌+◌, ◌-◌, ◌*◌, ◌≤◌, ◌<◌}
use native.Mathlib.Numerals.{add-one}
use native.Mathlib.Omega.{arith}
use native.Mathlib.Decide.{dec_lt}
use mathlib.Core.Path.{◌≡◌, refl, sym, ap, ap₂, subst, ◌∙◌}
use mathlib.Core.Bool.{Bool, true, false}
use mathlib.Core.List.{List}
use lib.Dec.{leb, ltb}
use lib.ListN.{get_or}
use borrow.Author.Tests.{le-leb, leb-true, lt-ltb, le-ltb, ltb-true}
use Rattle.integers.proofs.Tests.{clash, and_both, and_true, and_false, same_test}
use Rattle.limits.specs.Sizes.{aperture_min, places}
use Rattle.limits.specs.Refusal.{setting, aperture, unless_at, ◌then◌}
use Rattle.limits.specs.declared.Verdict.{Verdict}
use Rattle.limits.specs.declared.Verdict.TheVariants.{Passed, Refused}
use Rattle.limits.proofs.Verdicts.{not_passed}
use Rattle.limits.proofs.Exactly.{number_of, place_of}
use Rattle.setting.specs.Setting.{taken}
use Rattle.aperture.specs.declared.Place.{Place}
use Rattle.aperture.specs.declared.Table.{Table}
use Rattle.aperture.specs.declared.Changed.{Changed}
use Rattle.aperture.specs.Table.{is_number, is_held, empty, defined}
use Rattle.aperture.specs.Table as tables·
use Rattle.aperture.specs.Reachable.{Holds}
use Rattle.aperture.proofs.Numbers.{number_iff, held_parts}
use Rattle.aperture.proofs.Answers.{not_number, not_taken, stores}
use Rattle.setting_list.specs.Settings.{setting_at, setting_count, Tabled, tabled_from, table_of, settings_verdict, tabled_verdict, setting_verdict, held_where, held_count, is_one_of}
use Rattle.setting_list.proofs.Defined.{none_left, next_defined, next_refused}
use Rattle.setting_list.proofs.Made.{Begun, Ended, whole, broken, none_free, begin, more, table_ended, tabled_passed, tabled_refused}

-- ---- the checks of one setting
module _ (l : List ℕ) (i : ℕ) where
  pub no_number : is_number (10 + i) ≡ false → Refused 6 i ≡ setting_verdict l i
  no_number e = rw e

  pub outside : is_number (10 + i) ≡ true → taken (setting_at l i) ≡ false → Refused 1 i ≡ setting_verdict l i
  outside e f = rw (e, f)

  pub inside : is_number (10 + i) ≡ true → taken (setting_at l i) ≡ true → Passed ≡ setting_verdict l i
  inside e f = rw (e, f)

  -- its three numbers
  pub setting_is : {w p q : ℕ} → w ≡ get_or l (3 * i) 0 → p ≡ get_or l (3 * i + 1) 0 → q ≡ get_or l (3 * i + 2) 0 → record { w = w; p = p; q = q } ≡ setting_at l i
  setting_is e f g = rw (e, f, g)

-- ---- and of the table
module _ (l : List ℕ) (i : ℕ) (t : Table) (b : Begun l i t) where
  abbrev tried : Changed
  tried = defined t (10 + i) (setting_at l i)

  -- where it passes its own checks it can be defined, since no aperture after the earlier ones is in use
  good_defined : setting_verdict l i ≡ Passed → tried.refusal ≡ 0
  good_defined e = go (is_number (10 + i)) (taken (setting_at l i)) refl refl e
    where
      go : (m s : Bool) → is_number (10 + i) ≡ m → taken (setting_at l i) ≡ s → (unless_at i m aperture then unless_at i s setting) ≡ Passed → tried.refusal ≡ 0
      go true true p q e = ap (λ (c : Changed). c.refusal) (stores t (10 + i) (setting_at l i) p q (b.free i (omega arith) p))
      go true false p q e = not_passed e
      go false s p q e = not_passed e

  -- where they refuse it, defining refuses it with the same number
  bad_refused : {n place : ℕ} → setting_verdict l i ≡ Refused n place → (tried.refusal ≡ n) × (i ≡ place) × ¬ (n ≡ 0)
  bad_refused {n} {place} e = go (is_number (10 + i)) (taken (setting_at l i)) refl refl e
    where
      go : (m s : Bool) → is_number (10 + i) ≡ m → taken (setting_at l i) ≡ s → (unless_at i m aperture then unless_at i s setting) ≡ Refused n place →
          (tried.refusal ≡ n) × (i ≡ place) × ¬ (n ≡ 0)
      go true true p q e = not_passed (sym e)
      go true false p q e =
          let k : 1 ≡ n = ap number_of e in
          (ap (λ (c : Changed). c.refusal) (not_taken t (10 + i) (setting_at l i) p q) ∙ k, ap place_of e, λ z. omega (arith, k, z))
      go false s p q e =
          let k : 6 ≡ n = ap number_of e in
          (ap (λ (c : Changed). c.refusal) (not_number t (10 + i) (setting_at l i) p) ∙ k, ap place_of e, λ z. omega (arith, k, z))

-- ---- one setting after the other
-- the first i settings passed: they stand in a table, and what is left to be defined gives the answer
pub record Reached (l : List ℕ) (i : ℕ) : Type 0 where
  pub few : i ≤ setting_count l
  pub table : Table
  pub begun : Begun l i table
  pub left : tabled_from l i (setting_count l - i) table ≡ table_of l

module _ (l : List ℕ) where
  pub reached_none : Reached l 0
  reached_none =
      let n : setting_count l - 0 ≡ setting_count l = omega arith in
      record { few = omega arith; table = empty; begun = begin l; left = ap (λ (m : ℕ). tabled_from l 0 m empty) n }

  module _ (i : ℕ) (r : Reached l i) where
    -- setting i is the first of those that are left
    here : i < setting_count l → tabled_from l i (suc (setting_count l - (i + 1))) r.table ≡ table_of l
    here h = let n : suc (setting_count l - (i + 1)) ≡ setting_count l - i = omega arith in ap (λ (m : ℕ). tabled_from l i m r.table) n ∙ r.left

    pub reached_more : i < setting_count l → setting_verdict l i ≡ Passed → Reached l (i + 1)
    reached_more h e =
        let z = good_defined l i r.table r.begun e in
        let next = (defined r.table (10 + i) (setting_at l i)).table in record {
          few = omega arith;
          table = next;
          begun = subst (λ (k : ℕ). Begun l k next) (sym (add-one i)) (more l i r.table r.begun z);
          left = ap (λ (k : ℕ). tabled_from l k (setting_count l - (i + 1)) next) (add-one i) ∙ sym (next_defined l i r.table _ z) ∙ here h;
        }

    pub reached_bad : {n place : ℕ} → i < setting_count l → setting_verdict l i ≡ Refused n place → Refused n place ≡ settings_verdict l
    reached_bad {n} {place} h e =
        let b = bad_refused l i r.table r.begun e in
        let z : ¬ ((defined r.table (10 + i) (setting_at l i)).refusal ≡ 0) = λ k. b.2 (sym b.0 ∙ k) in
        let told : Tabled = record { refusal = (defined r.table (10 + i) (setting_at l i)).refusal; place = i; table = empty } in
        sym (ap tabled_verdict (sym (here h) ∙ next_refused l i r.table _ z) ∙ tabled_refused told z ∙ ap₂ Refused b.0 b.1)

    pub reached_all : setting_count l ≤ i → Passed ≡ settings_verdict l
    reached_all h =
        let none : 0 ≡ setting_count l - i = omega arith in
        let told : Tabled = record { refusal = 0; place = 0; table = r.table } in
        sym (ap tabled_verdict (sym r.left ∙ ap (λ (m : ℕ). tabled_from l i m r.table) (sym none) ∙ sym (none_left l i r.table)) ∙ tabled_passed told refl)

-- ---- which apertures the table holds
module _ (l : List ℕ) (n : ℕ) where
  abbrev held : Tabled → Bool
  held r = is_held r.table n

  -- the settings stand in it from aperture 10 on, and no later one is in use
  all_held : (t : Table) → Begun l (setting_count l) t → is_held t n ≡ is_one_of (setting_count l) n
  all_held t b = same_test (is_held t n) (is_one_of (setting_count l) n) there back
    where
      there : is_held t n ≡ true → is_one_of (setting_count l) n ≡ true
      there e =
          let h = held_parts t n e in
          let k = (number_iff n).0 h.0 in
          let at : 10 + (n - 10) ≡ n = omega (arith, k.0) in
          elim (dec_lt (n - 10) (setting_count l)) [
            | yes m ↦ and_true (leb 10 n) (ltb (n - 10) (setting_count l)) (le-leb 10 n k.0) (lt-ltb (n - 10) (setting_count l) m)
            | no m ↦ absurd (clash h.1 (subst (λ (x : ℕ). (tables·.place_of t x).used ≡ false) at (b.free (n - 10) (omega arith) (subst (λ (x : ℕ). is_number x ≡ true) (sym at) h.0))))
          ]

      back : is_one_of (setting_count l) n ≡ true → is_held t n ≡ true
      back e =
          let h = and_both (leb 10 n) (ltb (n - 10) (setting_count l)) e in
          let at : 10 + (n - 10) ≡ n = omega (arith, leb-true 10 n h.0) in
          let s = b.holds (n - 10) (ltb-true (n - 10) (setting_count l) h.1) in
          subst (λ (x : ℕ). is_held t x ≡ true) at (and_true (is_number (10 + (n - 10))) _ s.number (ap (λ (p : Place). p.used) s.place))

  -- in the empty one there are none
  none_held : is_held empty n ≡ is_one_of 0 n
  none_held = and_false (is_number n) _ (none_free places (n - aperture_min)) ∙ sym (and_false (leb aperture_min n) (ltb (n - aperture_min) 0) (le-ltb (n - aperture_min) 0 (omega arith)))

  pub held_is : is_held (table_of l).table n ≡ is_one_of (held_count l) n
  held_is = go (table_ended l)
    where
      count : {v : Verdict} → settings_verdict l ≡ v → held_where v (setting_count l) ≡ held_count l
      count e = ap (λ (v : Verdict). held_where v (setting_count l)) (sym e)

      go : Ended l (setting_count l) (table_of l) → is_held (table_of l).table n ≡ is_one_of (held_count l) n
      go (whole e b) = all_held (table_of l).table b ∙ ap (λ (k : ℕ). is_one_of k n) (count (tabled_passed (table_of l) e))
      go (broken i t h b z q) =
          let r : ¬ ((table_of l).refusal ≡ 0) = λ k. z (sym (ap (λ (r : Tabled). r.refusal) q) ∙ k) in
          ap held q ∙ none_held ∙ ap (λ (k : ℕ). is_one_of k n) (count (tabled_refused (table_of l) r))

  -- the aperture that a stroke is drawn with is the setting's
  pub held_setting : is_held (table_of l).table n ≡ true → Holds (table_of l).table n (setting_at l (n - 10))
  held_setting e = go (table_ended l)
    where
      go : Ended l (setting_count l) (table_of l) → Holds (table_of l).table n (setting_at l (n - 10))
      go (whole z b) =
          let h = and_both (leb 10 n) (ltb (n - 10) (setting_count l)) (sym (all_held (table_of l).table b) ∙ e) in
          let at : 10 + (n - 10) ≡ n = omega (arith, leb-true 10 n h.0) in
          subst (λ (x : ℕ). Holds (table_of l).table x (setting_at l (n - 10))) at (b.holds (n - 10) (ltb-true (n - 10) (setting_count l) h.1))
      go (broken i t h b z q) = absurd (clash (sym (ap held q) ∙ e) (and_false (is_number n) _ (none_free places (n - aperture_min))))
