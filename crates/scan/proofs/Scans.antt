-- A chunk, byte by byte. A caller goes by `scanned_none`, `scanned_stop` and `scanned_on`; the others say how much is read.
use Prim.Native.Nat.{ℕ, suc, ◌+◌, ◌≤◌, ◌<◌}
use native.Mathlib.Omega.{arith}
use native.Mathlib.Numerals.{add-one}
use mathlib.Core.Path.{◌≡◌, refl, sym, ap, ◌∙◌}
use mathlib.Core.Bool.{Bool, true, false, cond}
use mathlib.Core.List.{List, [], ◌∷◌}
use lib.ListN.{length, get_or, drop, drop_of_length-le}
use lib.Seq.{drop-cons}
use Rattle.scan.specs.declared.Scanner.{Scanner}
use Rattle.scan.specs.declared.Scanned.{Scanned}
use Rattle.scan.specs.Scanner.{stepped, is_stop, later, scanned, scanned_from}

-- ---- one byte
pub scanned_none : (s : Scanner) → scanned s [] ≡ record { scanner = s; end = 0 }
unfolding scanned
scanned_none s = refl

pub scanned_cons : (s : Scanner) (b : ℕ) (l : List ℕ) →
    scanned s (b ∷ l) ≡ cond (is_stop (stepped s b).mode) (record { scanner = stepped s b; end = 1 }) (later 1 (scanned (stepped s b) l))
unfolding scanned
scanned_cons s b l = refl

module _ (s : Scanner) (b : ℕ) (l : List ℕ) where
  abbrev by : Bool → Scanned
  by t = cond t (record { scanner = stepped s b; end = 1 }) (later 1 (scanned (stepped s b) l))

  pub scanned_stop : is_stop (stepped s b).mode ≡ true → scanned s (b ∷ l) ≡ record { scanner = stepped s b; end = 1 }
  scanned_stop e = scanned_cons s b l ∙ ap by e

  pub scanned_on : is_stop (stepped s b).mode ≡ false → scanned s (b ∷ l) ≡ later 1 (scanned (stepped s b) l)
  scanned_on e = scanned_cons s b l ∙ ap by e

-- ---- how much is read: not more than there is, and a byte at least
pub scanned_end : (s : Scanner) (l : List ℕ) → (scanned s l).end ≤ length l
scanned_end s [] = rw (scanned_none s) (omega arith)
scanned_end s (b ∷ l) = go (scanned_end (stepped s b) l) (is_stop (stepped s b).mode) refl
  where
    go : (scanned (stepped s b) l).end ≤ length l → (t : Bool) → is_stop (stepped s b).mode ≡ t → (scanned s (b ∷ l)).end ≤ length (b ∷ l)
    go h true e = rw (scanned_stop s b l e) (omega arith)
    go h false e = rw (scanned_on s b l e) (omega arith)

pub scanned_some : (s : Scanner) (b : ℕ) (l : List ℕ) → 1 ≤ (scanned s (b ∷ l)).end
scanned_some s b l = go (is_stop (stepped s b).mode) refl
  where
    go : (t : Bool) → is_stop (stepped s b).mode ≡ t → 1 ≤ (scanned s (b ∷ l)).end
    go true e = rw (scanned_stop s b l e) (omega arith)
    go false e = rw (scanned_on s b l e) (omega arith)

-- ---- from an index on, as the loop of `run` has it: q is the scanner after the byte there
none_more : (s : Scanner) (i : ℕ) → ◌≡◌ {A = Scanned} (record { scanner = s; end = i }) (later i (record { scanner = s; end = 0 }))
none_more s i = let h : i ≡ i + 0 = omega arith in ap (λ (n : ℕ). with_end n) h
  where
    with_end : ℕ → Scanned
    with_end n = record { scanner = s; end = n }

later_later : (i : ℕ) (r : Scanned) → later (suc i) r ≡ later i (later 1 r)
later_later i r = let h : suc i + r.end ≡ i + (1 + r.end) = omega arith in ap (λ (n : ℕ). with_end n) h
  where
    with_end : ℕ → Scanned
    with_end n = record { scanner = r.scanner; end = n }

pub past : (s : Scanner) (l : List ℕ) (i k : ℕ) → length l ≤ i → k ≡ i → ◌≡◌ {A = Scanned} (record { scanner = s; end = k }) (scanned_from s l i)
past s l i k h e = ap (λ (n : ℕ). with_end n) e ∙ none_more s i ∙ sym (ap (later i) (ap (scanned s) (drop_of_length-le l {i = i} h) ∙ scanned_none s))
  where
    with_end : ℕ → Scanned
    with_end n = record { scanner = s; end = n }

module _ (s : Scanner) (l : List ℕ) (i : ℕ) (h : i < length l) {q : Scanner} (e : q ≡ stepped s (get_or l i 0)) where
  here : (t : Bool) → is_stop q.mode ≡ t → is_stop (stepped s (get_or l i 0)).mode ≡ t
  here t f = sym (ap (λ (r : Scanner). is_stop r.mode) e) ∙ f

  pub stops : is_stop q.mode ≡ true → ◌≡◌ {A = Scanned} (record { scanner = q; end = i + 1 }) (scanned_from s l i)
  stops f = simp (drop-cons l i 0 h, scanned_stop s (get_or l i 0) (drop (suc i) l) (here true f), e)

  pub goes_on : is_stop q.mode ≡ false → scanned_from q l (i + 1) ≡ scanned_from s l i
  goes_on f =
      simp (add-one i, e) (later_later i (scanned (stepped s (get_or l i 0)) (drop (suc i) l))) ∙
      sym (ap (later i) (ap (scanned s) (drop-cons l i 0 h) ∙ scanned_on s (get_or l i 0) (drop (suc i) l) (here false f)))
