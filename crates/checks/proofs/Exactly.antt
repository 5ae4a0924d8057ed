-- Each check held against its line of the table of refusals, and a call's checks against the whole table: "Given exactly when".
use mathlib.Core.Path.{◌≡◌, refl, sym, ap, subst, ◌∙◌}
use mathlib.Core.Logic.{◌⊎◌, inl, inr, ◌↔◌}
use mathlib.Core.Bool.{Bool, true, false, ◌&&◌}
use mathlib.Core.List.{List, [], ◌∷◌}
use Prim.Native.Nat.{ℕ, zero, suc, ◌+◌, ◌%◌, ◌<◌}
use native.Mathlib.Omega.{arith}
use borrow.Author.Tests.{leb-true, leb-false, ltb-true, ltb-false, eqb-true, eqb-false}
use lib.Dec.{leb, ltb, eqb}
use lib.ListN.{length}
use lib.IntN.{ℤ, pos, neg_ℤ}
use lib.Signed.{le_z, clash_ℤ}
use Rattle.integers.proofs.Tests.{and_both, le_true, le_false}
use Rattle.integers.specs.Orders.{◌≺◌}
use Rattle.limits.specs.Sizes.{entries_max, coordinate_max, in_range, raster_max, is_size}
use Rattle.limits.specs.declared.Verdict.{Verdict}
use Rattle.limits.specs.declared.Verdict.TheVariants.{Passed, Refused}
use Rattle.limits.specs.Refusal.{Refusal, number, path, coordinate, raster, row, room, refuse, unless, ◌then◌}
use Rattle.limits.specs.Exactly.{◌when◌else◌, done, BadPath, BadEntry, BadCoordinate, FirstBad, BadSize, BadRaster, BadRow, NoRoom}
use Rattle.limits.proofs.Sizes.{size_iff}
use Rattle.limits.proofs.Verdicts.{not_passed}
use Rattle.limits.proofs.Exactly.{number_of, place_of, Says, passes, refuses, unless_says, says_last, says_first}
use Rattle.checks.specs.Checks.{path_verdict, raster_verdict, row_verdict, coordinate_from, coordinate_verdict, call_verdict, room_verdict}
use Rattle.checks.specs.Answer.{Offer, settled, given}
use Rattle.checks.specs.Refuses.{Refuses}

-- ---- the lines of the table
-- a conjunction fails where one of its parts does
either_fails : (a b : Bool) → (a && b) ≡ false → (a ≡ false) ⊎ (b ≡ false)
either_fails true b e = inr e
either_fails false b e = inl refl

abbrev path_test : ℕ → Bool
path_test n = leb 1 n && (eqb (n % 2) 0 && leb n entries_max)

pub path_says : (p : List ℤ) → Says (path_verdict p) 2 (BadPath p)
path_says p = unless_says (path_test (length p)) path (BadPath p) good bad
  where
    good : path_test (length p) ≡ true → ¬ BadPath p
    good e b =
        let h = and_both (leb 1 (length p)) (eqb (length p % 2) 0 && leb (length p) entries_max) e in
        let k = and_both (eqb (length p % 2) 0) (leb (length p) entries_max) h.1 in
        let some = leb-true 1 (length p) h.0 in
        let even = eqb-true (length p % 2) 0 k.0 in
        let few = leb-true (length p) entries_max k.1 in
        elim b [ inl z ↦ omega (arith, some, z) | inr c ↦ elim c [ inl z ↦ omega (arith, even, z) | inr z ↦ omega (arith, few, z) ] ]

    bad : path_test (length p) ≡ false → BadPath p
    bad e = elim (either_fails (leb 1 (length p)) (eqb (length p % 2) 0 && leb (length p) entries_max) e) [
      | inl h ↦ inl (omega (arith, leb-false 1 (length p) h))
      | inr h ↦ elim (either_fails (eqb (length p % 2) 0) (leb (length p) entries_max) h) [
        | inl k ↦ inr (inl (omega (arith, eqb-false (length p % 2) 0 k)))
        | inr k ↦ inr (inr (leb-false (length p) entries_max k))
      ]
    ]

size_fails : (n : ℕ) → is_size n ≡ false → BadSize n
size_fails n e = elim (either_fails (leb 1 n) (leb n raster_max) e) [ inl h ↦ inl (leb-false 1 n h) | inr h ↦ inr (leb-false n raster_max h) ]

size_good : (n : ℕ) → is_size n ≡ true → ¬ BadSize n
size_good n e b = let s = (size_iff n).0 e in elim b [ inl h ↦ omega (arith, h, s.some) | inr h ↦ omega (arith, h, s.few) ]

pub raster_says : (columns rows : ℕ) → Says (raster_verdict columns rows) 4 (BadRaster columns rows)
raster_says columns rows = unless_says (is_size columns && is_size rows) raster (BadRaster columns rows) good bad
  where
    good : (is_size columns && is_size rows) ≡ true → ¬ BadRaster columns rows
    good e b = let h = and_both (is_size columns) (is_size rows) e in elim b [ inl c ↦ size_good columns h.0 c | inr c ↦ size_good rows h.1 c ]

    bad : (is_size columns && is_size rows) ≡ false → BadRaster columns rows
    bad e = elim (either_fails (is_size columns) (is_size rows) e) [ inl h ↦ inl (size_fails columns h) | inr h ↦ inr (size_fails rows h) ]

pub row_says : (rows j : ℕ) → Says (row_verdict rows j) 5 (BadRow rows j)
row_says rows j = unless_says (ltb j rows) row (BadRow rows j) (λ e b. b (ltb-true j rows e)) (λ e h. omega (arith, h, ltb-false j rows e))

pub room_says : (needed space : ℕ) → Says (room_verdict needed space) 7 (NoRoom needed space)
room_says needed space = unless_says (leb needed space) room (NoRoom needed space) (λ e h. omega (arith, h, leb-true needed space e)) (λ e. leb-false needed space e)

-- ---- the line with a place
abbrev OutOfRange : ℤ → Type 0
OutOfRange z = (z ≺ neg_ℤ (pos 262144)) ⊎ (pos 262144 ≺ z)

range_good : (z : ℤ) → in_range z ≡ true → ¬ OutOfRange z
unfolding in_range
range_good z e b =
    let h = and_both (le_z (neg_ℤ (pos coordinate_max)) z) (le_z z (pos coordinate_max)) e in
    elim b [ inl l ↦ clash_ℤ l (le_true h.0) | inr l ↦ clash_ℤ l (le_true h.1) ]

range_fails : (z : ℤ) → in_range z ≡ false → OutOfRange z
unfolding in_range
range_fails z e = elim (either_fails (le_z (neg_ℤ (pos coordinate_max)) z) (le_z z (pos coordinate_max)) e) [ inl h ↦ inl (le_false h) | inr h ↦ inr (le_false h) ]

-- what the check of the entries from i on answers
data Found (i : ℕ) (l : List ℤ) (v : Verdict) : Type 0 where
  clean : v ≡ Passed → ((k : ℕ) → ¬ BadEntry l k) → Found i l v
  found : (k : ℕ) → v ≡ Refused 3 (i + k) → FirstBad l k → Found i l v

-- an entry before those that were looked at
before_clean : (z : ℤ) (l : List ℤ) → ¬ OutOfRange z → ((k : ℕ) → ¬ BadEntry l k) → (k : ℕ) → ¬ BadEntry (z ∷ l) k
before_clean z l h f zero b = h b.1
before_clean z l h f (suc k) b = f k (omega (arith, b.0), b.1)

before_first : (z : ℤ) (l : List ℤ) {k : ℕ} → ¬ OutOfRange z → FirstBad l k → FirstBad (z ∷ l) (suc k)
before_first z l {k} h f = record { bad = (omega (arith, f.bad.0), f.bad.1); first = earlier }
  where
    earlier : (m : ℕ) → m < suc k → ¬ BadEntry (z ∷ l) m
    earlier zero g b = h b.1
    earlier (suc m) g b = f.first m (omega arith) (omega (arith, b.0), b.1)

look : (i : ℕ) (l : List ℤ) → Found i l (coordinate_from i l)
unfolding coordinate_from
look i [] = clean refl (λ k b. omega (arith, b.0))
look i (z ∷ l) = go (in_range z) refl (look (suc i) l)
  where
    go : (t : Bool) → in_range z ≡ t → Found (suc i) l (coordinate_from (suc i) l) →
        Found i (z ∷ l) (elim t as (λ _. Verdict) [ true ↦ coordinate_from (suc i) l | false ↦ refuse coordinate i ])
    go false e f = found 0 (ap (λ (k : ℕ). Refused 3 k) (omega arith)) (record { bad = (omega arith, range_fails z e); first = λ k h. absurd (omega (arith, h)) })
    go true e (clean p h) = clean p (before_clean z l (range_good z e) h)
    go true e (found k p h) = found (suc k) (p ∙ ap (λ (k : ℕ). Refused 3 k) (omega arith)) (before_first z l (range_good z e) h)

pub coordinate_says : (p : List ℤ) → Says (coordinate_verdict p) 3 (BadCoordinate p)
coordinate_says p = go (look 0 p)
  where
    go : Found 0 p (coordinate_verdict p) → Says (coordinate_verdict p) 3 (BadCoordinate p)
    go (clean e h) = passes e (λ b. h b.0 b.1)
    go (found k e h) = refuses (0 + k) e (k, h.bad)

-- its place is that of the first bad entry
pub coordinate_place : (p : List ℤ) (n place : ℕ) → coordinate_verdict p ≡ Refused n place → FirstBad p place
coordinate_place p n place q = go (look 0 p)
  where
    go : Found 0 p (coordinate_verdict p) → FirstBad p place
    go (clean e h) = not_passed (sym q ∙ e)
    go (found k e h) = let same : 0 + k ≡ place = ap place_of (sym e ∙ q) in subst (FirstBad p) (omega (arith, same)) h

-- ---- the whole table
-- 4, 5, 3, 7: what is checked after the path's length
after_path : (p : List ℤ) (columns rows j needed space k : ℕ) →
    (number_of (raster_verdict columns rows then row_verdict rows j then coordinate_verdict p then room_verdict needed space) ≡ k)
    ↔ (4 when BadRaster columns rows else 5 when BadRow rows j else 3 when BadCoordinate p else 7 when NoRoom needed space else done) k
after_path p columns rows j needed space =
    says_first (raster_says columns rows) _ _
    (says_first (row_says rows j) _ _
    (says_first (coordinate_says p) _ _
    (says_last (room_says needed space))))

-- a call: what is checked of its pen comes first, and the room last
pub in_order : (v a b c d r : Verdict) → ((v then a then b then c then d) then r) ≡ (v then a then b then c then d then r)
in_order (Refused n p) a b c d r = refl
in_order Passed (Refused n p) b c d r = refl
in_order Passed Passed (Refused n p) c d r = refl
in_order Passed Passed Passed (Refused n p) d r = refl
in_order Passed Passed Passed Passed d r = refl

pub settled_number : {A : Type 0} (v : Verdict) (o : Offer A) → (settled v o).answer.refusal ≡ number_of v
settled_number Passed o = refl
settled_number (Refused n place) o = refl

-- ---- a call
-- a refusal gives nothing and keeps what was lent
pub settled_none : {A : Type 0} (v : Verdict) (o : Offer A) → ¬ ((settled v o).answer.refusal ≡ 0) → ((settled v o).answer.count ≡ 0) × ((settled v o).list ≡ o.before)
settled_none Passed o h = absurd (h refl)
settled_none (Refused n place) o h = (refl, refl)

pub settled_place : {A : Type 0} (v : Verdict) (o : Offer A) → (settled v o).answer.place ≡ place_of v
settled_place Passed o = refl
settled_place (Refused n place) o = refl

-- where a check with another number than 3 has only the place 0, so have it and the checks after it
abbrev pub Placed : List ℤ → Verdict → Type 0
Placed p v = (number_of v ≡ 3 → FirstBad p (place_of v)) × (¬ (number_of v ≡ 3) → place_of v ≡ 0)

pub unless_placed : (p : List ℤ) (t : Bool) (r : Refusal) → ¬ (number r ≡ 3) → Placed p (unless t r)
unless_placed p true r h = ((λ e. absurd (omega (arith, e))), λ e. refl)
unless_placed p false r h = ((λ e. absurd (h e)), λ e. refl)

-- a check that passes, or refuses with another number and the place 0
pub zero_placed : (p : List ℤ) (v : Verdict) (n : ℕ) → ¬ (n ≡ 3) → (v ≡ Passed) ⊎ (v ≡ Refused n 0) → Placed p v
zero_placed p v n h (inl e) = rw e ((λ q. absurd (omega (arith, q))), λ q. refl)
zero_placed p v n h (inr e) = rw e ((λ q. absurd (h q)), λ q. refl)

pub then_placed : (p : List ℤ) (v w : Verdict) → Placed p v → Placed p w → Placed p (v then w)
then_placed p Passed w f g = g
then_placed p (Refused n place) w f g = f

pub path_placed : (p : List ℤ) → Placed p (path_verdict p)
path_placed p = unless_placed p (path_test (length p)) path (λ e. omega arith)

coordinate_placed : (p : List ℤ) → Placed p (coordinate_verdict p)
coordinate_placed p = go (coordinate_verdict p) refl (coordinate_says p)
  where
    go : (v : Verdict) → coordinate_verdict p ≡ v → Says (coordinate_verdict p) 3 (BadCoordinate p) → Placed p v
    go Passed e s = ((λ q. absurd (omega (arith, q))), λ q. refl)
    go (Refused n place) e (passes f h) = not_passed (sym e ∙ f)
    go (Refused n place) e (refuses k f h) = ((λ q. coordinate_place p n place e), λ q. absurd (q (ap number_of (sym e ∙ f))))

after_placed : (p : List ℤ) (columns rows j needed space : ℕ) → Placed p (raster_verdict columns rows then row_verdict rows j then coordinate_verdict p then room_verdict needed space)
after_placed p columns rows j needed space =
    then_placed p (raster_verdict columns rows) _ (unless_placed p (is_size columns && is_size rows) raster (λ e. omega arith))
    (then_placed p (row_verdict rows j) _ (unless_placed p (ltb j rows) row (λ e. omega arith))
    (then_placed p (coordinate_verdict p) _ (coordinate_placed p) (unless_placed p (leb needed space) room (λ e. omega arith))))

module _ {A : Type 0} (o : Offer A) (p : List ℤ) (columns rows j : ℕ) where
  -- 4, 5, 3 and 7 come after what is checked of the pen, v, and of the path's length, w
  abbrev After : Verdict → Verdict → Verdict
  After v w = v then w then raster_verdict columns rows then row_verdict rows j then coordinate_verdict p then room_verdict o.count o.space

  -- all is what the call's checks answer, but for the room
  pub given_refuses : (v w : Verdict) {n : ℕ} {NoPen Bad : Type 0} → Says v n NoPen → Says w 2 Bad → Placed p v → Placed p w →
      (all : Verdict) → (all then room_verdict o.count o.space) ≡ After v w → Refuses n NoPen Bad p columns rows j o.count o.space o.before (given all o)
  given_refuses v w s t f g all e =
      let last = all then room_verdict o.count o.space in
      let number_is = settled_number last o ∙ ap number_of e in
      let place_is = settled_place last o ∙ ap place_of e in
      let placed = then_placed p v _ f (then_placed p w _ g (after_placed p columns rows j o.count o.space)) in record {
        exactly = λ k. let x = says_first s _ _ (says_first t _ _ (after_path p columns rows j o.count o.space)) k in ((λ h. x.0 (sym number_is ∙ h)), λ h. number_is ∙ x.1 h);
        first = λ h. subst (FirstBad p) (sym place_is) (placed.0 (sym number_is ∙ h));
        nowhere = λ h. place_is ∙ placed.1 (λ q. h (number_is ∙ q));
        none = λ h. (settled_none last o h).0;
        kept = λ h. (settled_none last o h).1;
      }

  -- a row call whose path is coordinates
  pub call_refuses : (v : Verdict) {n : ℕ} {NoPen : Type 0} → Says v n NoPen → Placed p v →
      Refuses n NoPen (BadPath p) p columns rows j o.count o.space o.before (given (call_verdict v p columns rows j) o)
  call_refuses v s f =
      given_refuses v (path_verdict p) s (path_says p) f (path_placed p) (call_verdict v p columns rows j)
      (in_order v (path_verdict p) (raster_verdict columns rows) (row_verdict rows j) (coordinate_verdict p) _)
