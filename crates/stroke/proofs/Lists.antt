-- What holds of all elements of a list, or of some, and the tests for it.
use mathlib.Core.Path.{◌≡◌, refl, sym, ap, ap₂, ◌∙◌, subst}
use mathlib.Core.Logic.{◌↔◌}
use mathlib.Core.Bool.{Bool, true, false, ◌&&◌, ◌||◌}
use mathlib.Core.List.Memᴰ
use mathlib.Core.List.{List, [], ◌∷◌, map}
use Rattle.integers.specs.Count.{◌∈◌}
use Rattle.integers.proofs.Tests.{and_both, clash}
use Rattle.stroke.specs.Extent.{all}
use Rattle.stroke.specs.Runs.{any}

pub cons_all : {A : Type 0} (P : A → Type 0) {e : A} {l : List A} → P e → ((f : A) → f ∈ l → P f) → (f : A) → f ∈ e ∷ l → P f
cons_all P h k f (Memᴰ.head q) = subst P (sym q) h
cons_all P h k f (Memᴰ.tail m) = k f m

pub map_iff : {A B : Type 0} (f : A → B) (P : B → Type 0) (l : List A) → ((x : A) → x ∈ l → P (f x)) ↔ ((y : B) → y ∈ map f l → P y)
map_iff f P l = ((λ h y m. let r = Memᴰ.of_map f l m in subst P r.2 (h r.0 r.1)), λ h x m. h (f x) (Memᴰ.map f m))

pub all_iff : {A : Type 0} (t : A → Bool) (l : List A) → (all t l ≡ true) ↔ ((e : A) → e ∈ l → t e ≡ true)
all_iff t [] = ((λ _ e m. absurd (Memᴰ.not-nil m)), λ _. refl)
all_iff {A} t (x ∷ l) = (
  (λ q. let b = and_both (t x) (all t l) q in cons_all (λ e. t e ≡ true) b.0 ((all_iff t l).0 b.1)),
  λ h. ap₂ ◌&&◌ (h x (Memᴰ.head refl)) ((all_iff t l).1 (λ e m. h e (Memᴰ.tail m))),
)

-- an element that passes the test
abbrev pub Some : {A : Type 0} → (A → Bool) → List A → Type 0
Some {A} t l = (e : A) × (e ∈ l) × (t e ≡ true)

pub any_iff : {A : Type 0} (t : A → Bool) (l : List A) → (any t l ≡ true) ↔ Some t l
any_iff t [] = ((λ q. absurd (clash q refl)), λ h. absurd (Memᴰ.not-nil h.1))
any_iff {A} t (x ∷ l) = (fore (t x) refl (any_iff t l).0, back (any_iff t l).1)
  where
    fore : (b : Bool) → t x ≡ b → (any t l ≡ true → Some t l) → (b || any t l) ≡ true → Some t (x ∷ l)
    fore true e ih q = (x, Memᴰ.head refl, e)
    fore false e ih q = let r = ih q in (r.0, Memᴰ.tail r.1, r.2)

    or_r : (b : Bool) → (b || true) ≡ true
    or_r true = refl
    or_r false = refl

    back : (Some t l → any t l ≡ true) → Some t (x ∷ l) → (t x || any t l) ≡ true
    back ih (e, Memᴰ.head q, h) = ap (λ b. b || any t l) (ap t (sym q) ∙ h)
    back ih (e, Memᴰ.tail m, h) = ap (λ b. t x || b) (ih (e, m, h)) ∙ or_r (t x)
