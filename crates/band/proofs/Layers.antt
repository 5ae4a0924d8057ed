-- Some rows of a band, laid over its bytes. A bit is black by `rows_black` exactly where it lies in one of the rows and in one of the columns, and is black there
-- (`rows_iff`); each law below is read off from that: two blacks in the same rows are their sum in these rows, rows after rows are all of them, and rows that have
-- nothing black may be left out.
use Prim.Native.Nat.{ℕ, suc, ◌+◌, ◌-◌, ◌*◌, ◌/◌, ◌%◌, ◌≤◌, ◌<◌}
use native.Mathlib.Nat.{le_refl, mul-le-mul, lt_of_le_of_lt}
use native.Mathlib.Omega.{arith}
use native.Mathlib.Decide.{dec_le}
use mathlib.Core.Path.{◌≡◌, refl, sym, ap, ◌∙◌}
use mathlib.Core.Logic.{◌↔◌, ◌⊎◌, inl, inr}
use mathlib.Core.Bool.{Bool, true, false, ◌||◌, or-false, or_assoc}
use mathlib.Core.List.{List, [], ◌∷◌, ◌++◌}
use borrow.Author.Tests.{leb-true, ltb-true, le-leb, lt-ltb}
use lib.Dec.{leb, ltb}
use lib.ListN.{length, get_or, take}
use lib.Seq.{take-suc}
use Rattle.integers.proofs.Tests.{clash, and_true, and_both, same_test}
use Rattle.bits.specs.Bits.{blackened}
use Rattle.bits.proofs.Blackened.{blackened_ext, blackened_none, blackened_twice}
use Rattle.stroke.specs.Runs.{any}
use Rattle.band.specs.Band.{band_black}
use Rattle.band.specs.declared.Shape.{Shape}
use Rattle.band.specs.Rows.{rows_black, shaped, Part}

-- ---- where a bit is black
pub record In (black : ℕ → ℕ → Bool) (columns top pitch from to z : ℕ) : Type 0 where
  pub held : z / pitch ≤ top
  pub after : from ≤ top - z / pitch
  pub before : top - z / pitch < to
  pub column : z % pitch < columns
  pub is : black (top - z / pitch) (z % pitch) ≡ true

module _ (black : ℕ → ℕ → Bool) (columns top pitch from to z : ℕ) where
  pub to_in : rows_black black columns top pitch from to z ≡ true → In black columns top pitch from to z
  to_in e =
      let i = z / pitch in
      let a = and_both (leb i top) _ e in
      let b = and_both (leb from (top - i)) _ a.1 in
      let c = and_both (ltb (top - i) to) _ b.1 in
      let d = and_both (ltb (z % pitch) columns) _ c.1 in
      record { held = leb-true i top a.0; after = leb-true from (top - i) b.0; before = ltb-true (top - i) to c.0; column = ltb-true (z % pitch) columns d.0; is = d.1 }

  pub of_in : In black columns top pitch from to z → rows_black black columns top pitch from to z ≡ true
  of_in m =
      let i = z / pitch in
      and_true (leb i top) _ (le-leb i top m.held) (and_true (leb from (top - i)) _ (le-leb from (top - i) m.after)
      (and_true (ltb (top - i) to) _ (lt-ltb (top - i) to m.before) (and_true (ltb (z % pitch) columns) _ (lt-ltb (z % pitch) columns m.column) m.is)))

  rows_iff : (rows_black black columns top pitch from to z ≡ true) ↔ In black columns top pitch from to z
  rows_iff = (to_in, of_in)

-- ---- two tests
or_left : (a b : Bool) → a ≡ true → (a || b) ≡ true
or_left a b e = rw e

or_right : (a b : Bool) → b ≡ true → (a || b) ≡ true
or_right true b e = refl
or_right false b e = e

or_either : (a b : Bool) → (a || b) ≡ true → (a ≡ true) ⊎ (b ≡ true)
or_either true b e = inl refl
or_either false b e = inr e

not_true : (a : Bool) → (a ≡ true → ⊥) → a ≡ false
not_true true h = absurd (h refl)
not_true false h = refl

-- ---- of a shape, laid over bytes
module _ (f : ℕ → ℕ → Bool) (s : Shape) (from to : ℕ) where
  abbrev At : ℕ → Type 0
  At = In f s.columns s.top (8 * s.stride) from to

  at : (z : ℕ) → (shaped f s from to z ≡ true) ↔ At z
  at z = rows_iff f s.columns s.top (8 * s.stride) from to z

  -- nothing is laid where nothing is black in these rows
  pub laid_none : (b : List ℕ) → ((j x : ℕ) → from ≤ j → j < to → f j x ≡ false) → b ≡ blackened (shaped f s from to) b
  laid_none b e = blackened_none (shaped f s from to) b (λ z h. not_true (shaped f s from to z) (λ q. let m = (at z).0 q in clash m.is (e _ _ m.after m.before)))

-- two blacks one after the other in the same rows
pub laid_both : (f g h : ℕ → ℕ → Bool) (s : Shape) (from to : ℕ) (b : List ℕ) {c : List ℕ} → ((j x : ℕ) → (f j x || g j x) ≡ h j x) → c ≡ blackened (shaped f s from to) b →
    blackened (shaped g s from to) c ≡ blackened (shaped h s from to) b
laid_both f g h s from to b e l = ap (blackened (shaped g s from to)) l ∙ blackened_twice (shaped f s from to) (shaped g s from to) (shaped h s from to) b one
  where
    in_rows : {k l : ℕ → ℕ → Bool} (z : ℕ) → ((j x : ℕ) → k j x ≡ true → l j x ≡ true) → At k s from to z → At l s from to z
    in_rows z i m = record { held = m.held; after = m.after; before = m.before; column = m.column; is = i _ _ m.is }

    one : (z : ℕ) → (shaped f s from to z || shaped g s from to z) ≡ shaped h s from to z
    one z = same_test _ _
        (λ q. (at h s from to z).1 (elim (or_either (shaped f s from to z) (shaped g s from to z) q) [
          | inl u ↦ in_rows z (λ j x v. sym (e j x) ∙ or_left (f j x) (g j x) v) ((at f s from to z).0 u)
          | inr u ↦ in_rows z (λ j x v. sym (e j x) ∙ or_right (f j x) (g j x) v) ((at g s from to z).0 u)
        ]))
        (λ q. let m = (at h s from to z).0 q in let j = s.top - z / (8 * s.stride) in let x = z % (8 * s.stride) in elim (or_either (f j x) (g j x) (e j x ∙ m.is)) [
          | inl u ↦ or_left (shaped f s from to z) (shaped g s from to z) ((at f s from to z).1 (record { held = m.held; after = m.after; before = m.before; column = m.column; is = u }))
          | inr u ↦ or_right (shaped f s from to z) (shaped g s from to z) ((at g s from to z).1 (record { held = m.held; after = m.after; before = m.before; column = m.column; is = u }))
        ])

module _ (f : ℕ → ℕ → Bool) (s : Shape) where
  -- another range of rows that has the row
  moved : {from to from' to' z : ℕ} → from' ≤ s.top - z / (8 * s.stride) → s.top - z / (8 * s.stride) < to' → At f s from to z → At f s from' to' z
  moved h k m = record { held = m.held; after = h; before = k; column = m.column; is = m.is }

  -- some rows, and those after them
  pub laid_after : (from mid to : ℕ) (b : List ℕ) {c : List ℕ} → from ≤ mid → mid ≤ to → c ≡ blackened (shaped f s from mid) b →
      blackened (shaped f s mid to) c ≡ blackened (shaped f s from to) b
  laid_after from mid to b p q l = ap (blackened (shaped f s mid to)) l ∙ blackened_twice (shaped f s from mid) (shaped f s mid to) (shaped f s from to) b one
    where
      one : (z : ℕ) → (shaped f s from mid z || shaped f s mid to z) ≡ shaped f s from to z
      one z = same_test _ _
          (λ t. elim (or_either (shaped f s from mid z) (shaped f s mid to z) t) [
            | inl u ↦ let m = (at f s from mid z).0 u in (at f s from to z).1 (moved m.after (omega (arith, m.before)) m)
            | inr u ↦ let m = (at f s mid to z).0 u in (at f s from to z).1 (moved (omega (arith, m.after)) m.before m)
          ])
          (λ t. let m = (at f s from to z).0 t in elim (dec_le mid (s.top - z / (8 * s.stride))) [
            | yes h ↦ or_right (shaped f s from mid z) (shaped f s mid to z) ((at f s mid to z).1 (moved h m.before m))
            | no h ↦ or_left (shaped f s from mid z) (shaped f s mid to z) ((at f s from mid z).1 (moved m.after (omega (arith, h)) m))
          ])

  -- rows with nothing black, before and after, may be left out
  pub laid_wider : (first from to end : ℕ) (b : List ℕ) → first ≤ from → to ≤ end → ((j x : ℕ) → first ≤ j → j < from → j < end → f j x ≡ false) →
      ((j x : ℕ) → first ≤ j → to ≤ j → j < end → f j x ≡ false) → blackened (shaped f s from to) b ≡ blackened (shaped f s first end) b
  laid_wider first from to end b p q before past = blackened_ext (shaped f s from to) (shaped f s first end) b one
    where
      one : (z : ℕ) → z < 8 * length b → shaped f s from to z ≡ shaped f s first end z
      one z _ = same_test _ _
          (λ t. let m = (at f s from to z).0 t in (at f s first end z).1 (moved (omega (arith, m.after)) (omega (arith, m.before)) m))
          (λ t. let m = (at f s first end z).0 t in
          elim (dec_le from (s.top - z / (8 * s.stride))) [
            | yes h ↦ elim (dec_le to (s.top - z / (8 * s.stride))) [
              | yes k ↦ absurd (clash m.is (past _ _ m.after k m.before))
              | no k ↦ (at f s from to z).1 (moved h (omega (arith, k)) m)
            ]
            | no h ↦ absurd (clash m.is (before _ _ m.after (omega (arith, h)) m.before))
          ])

  -- all rows of the band
  pub laid_band : (first n : ℕ) (b : List ℕ) → 1 ≤ n → s.top ≡ first + (n - 1) → blackened (shaped f s first (s.top + 1)) b ≡ blackened (band_black f s.columns first n s.stride) b
  laid_band first n b h e = blackened_ext (shaped f s first (s.top + 1)) (band_black f s.columns first n s.stride) b one
    where
      one : (z : ℕ) → z < 8 * length b → shaped f s first (s.top + 1) z ≡ band_black f s.columns first n s.stride z
      one z _ =
          let i = z / (8 * s.stride) in
          let x = z % (8 * s.stride) in
          same_test _ _
          (λ t. let m = (at f s first (s.top + 1) z).0 t in
          and_true (ltb i n) _ (lt-ltb i n (omega (arith, m.held, m.after)))
          (and_true (ltb x s.columns) _ (lt-ltb x s.columns m.column) (ap (λ (j : ℕ). f (j - i) x) (sym e) ∙ m.is)))
          (λ t. let u = and_both (ltb i n) _ t in let v = and_both (ltb x s.columns) _ u.1 in let k = ltb-true i n u.0 in
          (at f s first (s.top + 1) z).1 (record {
            held = omega (arith, k, e);
            after = omega (arith, k, e);
            before = omega arith;
            column = ltb-true x s.columns v.0;
            is = ap (λ (j : ℕ). f (j - i) x) e ∙ v.1;
          }))

-- ---- some of the rows of a part have their place too
pub part_of : {s : Shape} {from to : ℕ} (t e : ℕ) → Part s from to → from ≤ t → t ≤ e → e ≤ to → Part s t e
part_of {s} {from} t e p h k l =
    let less : s.stride * (s.top - t) ≤ s.stride * (s.top - from) = mul-le-mul (le_refl s.stride) (omega arith) in
    record { ordered = k; inside = omega (arith, p.inside); placed = lt_of_le_of_lt less p.placed }

-- ---- one element after the other
any_both : {A : Type 0} (p : A → Bool) (k l : List A) → any p (k ++ l) ≡ (any p k || any p l)
any_both p [] l = refl
any_both p (a ∷ k) l = ap (λ (t : Bool). p a || t) (any_both p k l) ∙ sym (or_assoc (p a) (any p k) (any p l))

pub any_next : {A : Type 0} (p : A → Bool) (l : List A) (k : ℕ) (d : A) → k < length l → (any p (take k l) || p (get_or l k d)) ≡ any p (take (suc k) l)
any_next p l k d h =
    let a = get_or l k d in
    ap (λ (t : Bool). any p (take k l) || t) (sym (or-false (p a))) ∙ sym (any_both p (take k l) (a ∷ [])) ∙ ap (any p) (sym (take-suc l k d h))
