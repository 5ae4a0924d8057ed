-- What calls on chunks give is what all symbols give: a lemma for each answer of a call, and then the calls one after the other. Each lemma goes by the first symbol's
-- step: what the call on the others answers, and what reading gives, are known from there.
use Prim.Native.Nat.{ℕ, suc, ◌+◌}
use mathlib.Core.Path.{◌≡◌, refl, ap, ◌∙◌}
use mathlib.Core.List.{List, [], ◌∷◌, ◌++◌}
use mathlib.Core.Option.{Option, some}
use native.Mathlib.Omega.{arith}
use lib.ListN.{drop, length}
use Rattle.chunks.specs.Machine.{
  Stepped,
  goes,
  gives,
  fails,
  Called,
  more,
  gave,
  failed,
  Given,
  Read,
  ahead,
  one_more,
  call,
  read,
  Session,
  ends,
  goes_on,
  hands,
  breaks,
}
use Rattle.chunks.specs.Theorems.{AnyChunks}

-- ---- answers
same_more : {S E F : Type 0} {s t : S} → ◌≡◌ {A = Called S E F} (more s) (more t) → s ≡ t
same_more q = cc

-- an answer counted with one symbol more is of the same kind
one_more_lem : {S E F : Type 0} (c : Called S E F) (t : S) → one_more c ≡ more t → c ≡ more t
one_more_lem (more s) t q = q
one_more_lem (gave e s n) t q = absurd (let z : ◌≡◌ {A = ℕ} 0 1 = cc in omega arith)
one_more_lem (failed f s) t q = absurd (let z : ◌≡◌ {A = ℕ} 0 1 = cc in omega arith)

one_gave : {S E F : Type 0} (c : Called S E F) (e : E) (t : S) (n : ℕ) → one_more c ≡ gave e t n → (m : ℕ) × ((c ≡ gave e t m) × (suc m ≡ n))
one_gave (more s) e t n q = absurd (let z : ◌≡◌ {A = ℕ} 0 1 = cc in omega arith)
one_gave (gave e' s m) e t n q = (m, (cc, cc))
one_gave (failed f s) e t n q = absurd (let z : ◌≡◌ {A = ℕ} 0 1 = cc in omega arith)

one_failed : {S E F : Type 0} (c : Called S E F) (f : F) (t : S) → one_more c ≡ failed f t → c ≡ failed f t
one_failed (more s) f t q = absurd (let z : ◌≡◌ {A = ℕ} 0 1 = cc in omega arith)
one_failed (gave e s n) f t q = absurd (let z : ◌≡◌ {A = ℕ} 0 1 = cc in omega arith)
one_failed (failed g s) f t q = q

module _ {A S E F : Type 0} (step : S → A → Stepped S E F) where
  -- ---- a call that gives nothing: reading goes on with the rest
  on_step : (k : ℕ) (s : S) (a : A) (l : List A) (t : S) (rest : List A) (r : Stepped S E F) → step s a ≡ r → call step s (a ∷ l) ≡ more t →
      ((u : S) → call step u l ≡ more t → read step (suc k) u (l ++ rest) ≡ read step (suc k + length l) t rest) →
      read step k s (a ∷ l ++ rest) ≡ read step (suc k + length l) t rest
  unfolding call read
  on_step k s a l t rest (goes u) e q f = rw e (f u (one_more_lem (call step u l) t (rw (e, call) at q)))
  on_step k s a l t rest (gives w u) e q f = absurd (let q' = rw (e, call) at q in let z : ◌≡◌ {A = ℕ} 0 1 = cc in omega arith)
  on_step k s a l t rest (fails g u) e q f = absurd (let q' = rw (e, call) at q in let z : ◌≡◌ {A = ℕ} 0 1 = cc in omega arith)

  on : (k : ℕ) (s : S) (chunk : List A) (t : S) (rest : List A) → call step s chunk ≡ more t → read step k s (chunk ++ rest) ≡ read step (k + length chunk) t rest
  unfolding call
  on k s [] t rest q =
      let n : k ≡ k + 0 = omega arith in
      ap (λ (z : S). read step k z rest) (same_more {E = E} {F = F} q) ∙ ap (λ (j : ℕ). read step j t rest) n
  on k s (a ∷ l) t rest q =
      let n : suc k + length l ≡ k + suc (length l) = omega arith in
      on_step k s a l t rest (step s a) refl q (λ u h. on (suc k) u l t rest h) ∙ ap (λ (j : ℕ). read step j t rest) n

  -- ---- a call that gives something: it is the first thing that reading gives, and reading goes on with what the call left
  abbrev handing : ℕ → E → S → List A → Read S E F
  handing k e t left = ahead (record { thing = e; used = k }) (read step k t left)

  off_step : (k : ℕ) (s : S) (a : A) (l : List A) (e : E) (t : S) (n : ℕ) (rest : List A) (r : Stepped S E F) → step s a ≡ r → call step s (a ∷ l) ≡ gave e t n →
      ((u : S) (m : ℕ) → call step u l ≡ gave e t m → read step (suc k) u (l ++ rest) ≡ handing (suc k + m) e t (drop m l ++ rest)) →
      read step k s (a ∷ l ++ rest) ≡ handing (k + n) e t (drop n (a ∷ l) ++ rest)
  unfolding call read
  off_step k s a l e t n rest (goes u) h q f =
      let c = one_gave (call step u l) e t n (rw (h, call) at q) in
      let i : suc k + c.0 ≡ k + suc c.0 = omega arith in
      rw h (f u c.0 c.1.0) ∙ ap (λ (j : ℕ). handing j e t (drop c.0 l ++ rest)) i ∙ ap (λ (j : ℕ). handing (k + j) e t (drop j (a ∷ l) ++ rest)) c.1.1
  off_step k s a l e t n rest (gives w u) h q f =
      let q' = rw (h, call) at q in
      let same : w ≡ e = cc in
      let then : u ≡ t = cc in
      let one : 1 ≡ n = cc in
      let i : suc k ≡ k + 1 = omega arith in
      rw h (ap (λ (z : E). handing (suc k) z u (l ++ rest)) same) ∙ ap (λ (z : S). handing (suc k) e z (l ++ rest)) then ∙ ap (λ (j : ℕ). handing j e t (l ++ rest)) i ∙
      ap (λ (j : ℕ). handing (k + j) e t (drop j (a ∷ l) ++ rest)) one
  off_step k s a l e t n rest (fails g u) h q f = absurd (let q' = rw (h, call) at q in let z : ◌≡◌ {A = ℕ} 0 1 = cc in omega arith)

  off : (k : ℕ) (s : S) (chunk : List A) (e : E) (t : S) (n : ℕ) (rest : List A) → call step s chunk ≡ gave e t n →
      read step k s (chunk ++ rest) ≡ handing (k + n) e t (drop n chunk ++ rest)
  unfolding call
  off k s [] e t n rest q = absurd (let z : ◌≡◌ {A = ℕ} 0 1 = cc in omega arith)
  off k s (a ∷ l) e t n rest q = off_step k s a l e t n rest (step s a) refl q (λ u m h. off (suc k) u l e t m rest h)

  -- ---- a call that fails: reading stops there, whatever is left
  abbrev stopped : F → S → Read S E F
  stopped f t = record { given = []; failure = some f; state = t }

  out_step : (k : ℕ) (s : S) (a : A) (l : List A) (f : F) (t : S) (rest : List A) (r : Stepped S E F) → step s a ≡ r → call step s (a ∷ l) ≡ failed f t →
      ((u : S) → call step u l ≡ failed f t → read step (suc k) u (l ++ rest) ≡ stopped f t) → read step k s (a ∷ l ++ rest) ≡ stopped f t
  unfolding call read
  out_step k s a l f t rest (goes u) h q i = rw h (i u (one_failed (call step u l) f t (rw (h, call) at q)))
  out_step k s a l f t rest (gives w u) h q i = absurd (let q' = rw (h, call) at q in let z : ◌≡◌ {A = ℕ} 0 1 = cc in omega arith)
  out_step k s a l f t rest (fails g u) h q i =
      let q' = rw (h, call) at q in
      let same : g ≡ f = cc in
      let then : u ≡ t = cc in
      rw h (ap (λ (z : F). stopped z u) same) ∙ ap (λ (z : S). stopped f z) then

  out : (k : ℕ) (s : S) (chunk : List A) (f : F) (t : S) (rest : List A) → call step s chunk ≡ failed f t → read step k s (chunk ++ rest) ≡ stopped f t
  unfolding call
  out k s [] f t rest q = absurd (let z : ◌≡◌ {A = ℕ} 0 1 = cc in omega arith)
  out k s (a ∷ l) f t rest q = out_step k s a l f t rest (step s a) refl q (λ u h. out (suc k) u l f t rest h)

  -- ---- calls one after the other
  pub any_chunks : AnyChunks A S E F step
  unfolding read
  any_chunks k s u l given failure r = go r
    where
      go : {k : ℕ} {s u : S} {l : List A} {given : List (Given E)} {failure : Option F} → Session step k s l given failure u →
          read step k s l ≡ record { given = given; failure = failure; state = u }
      go ends = refl
      go (goes_on {k} {s} {t} chunk rest q r) = on k s chunk t rest q ∙ go r
      go (hands {k} {s} {t} {e = e} {n = n} chunk rest q r) = off k s chunk e t n rest q ∙ ap (ahead (record { thing = e; used = k + n })) (go r)
      go (breaks {k} {s} {t} {f} chunk rest q) = out k s chunk f t rest q
