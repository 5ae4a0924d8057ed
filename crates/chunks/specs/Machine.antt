-- A machine is fed one symbol at a time, of any type A. Each either lets it go on, or ends the call with something given (E), or fails it (F) for good.
use Rattle.std.specs.Prelude.{ℕ, suc, ◌+◌, ◌≡◌, List, [], ◌∷◌, ◌++◌, drop, length}
use Rattle.std.proofs.Math.Option.{Option, none, some}

pub data Stepped (S E F : Type 0) : Type 0 where
  goes : S → Stepped S E F
  gives : E → S → Stepped S E F
  fails : F → S → Stepped S E F

-- what a call answers: nothing, all symbols of its chunk being used; one thing given, after so many of them; or a failure
pub data Called (S E F : Type 0) : Type 0 where
  more : S → Called S E F
  gave : E → S → ℕ → Called S E F
  failed : F → S → Called S E F

-- a thing given, and how many symbols had been read by then
pub record Given (E : Type 0) : Type 0 where
  pub thing : E
  pub used : ℕ

-- what all symbols give, the machine going on after each thing given, up to the failure, if there is one
pub record Read (S E F : Type 0) : Type 0 where
  pub given : List (Given E)
  pub failure : Option F
  pub state : S

abbrev pub ahead : {S E F : Type 0} → Given E → Read S E F → Read S E F
ahead e r = record { given = e ∷ r.given; failure = r.failure; state = r.state }

abbrev pub one_more : {S E F : Type 0} → Called S E F → Called S E F
one_more (more s) = more s
one_more (gave e s n) = gave e s (suc n)
one_more (failed f s) = failed f s

module _ {A S E F : Type 0} (step : S → A → Stepped S E F) where
  unfoldable pub call : S → List A → Called S E F
  call s [] = more s
  call s (a ∷ l) = elim (step s a) as (λ _. Called S E F) [ goes t ↦ one_more (call t l) | gives e t ↦ gave e t 1 | fails f t ↦ failed f t ]

  -- k symbols have been read before
  unfoldable pub read : ℕ → S → List A → Read S E F
  read k s [] = record { given = []; failure = none; state = s }
  read k s (a ∷ l) =
      elim (step s a) as (λ _. Read S E F) [
        | goes t ↦ read (suc k) t l
        | gives e t ↦ ahead (record { thing = e; used = suc k }) (read (suc k) t l)
        | fails f t ↦ record { given = []; failure = some f; state = t }
      ]

  -- calls made one after the other, on chunks of any length, also none: each takes some first part of the symbols that are left
  pub data Session : ℕ → S → List A → List (Given E) → Option F → S → Type 0 where
    ends : {k : ℕ} {s : S} → Session k s [] [] none s
    goes_on : {k : ℕ} {s t u : S} {given : List (Given E)} {failure : Option F} (chunk rest : List A) → call s chunk ≡ more t → Session (k + length chunk) t rest given failure u →
        Session k s (chunk ++ rest) given failure u
    hands : {k : ℕ} {s t u : S} {given : List (Given E)} {failure : Option F} {e : E} {n : ℕ} (chunk rest : List A) → call s chunk ≡ gave e t n →
        Session (k + n) t (drop n chunk ++ rest) given failure u → Session k s (chunk ++ rest) (record { thing = e; used = k + n } ∷ given) failure u
    breaks : {k : ℕ} {s t : S} {f : F} (chunk rest : List A) → call s chunk ≡ failed f t → Session k s (chunk ++ rest) [] (some f) t
