-- The bytes of a command, followed by mode and numbers: inside it until its last byte.
use Prim.Native.Nat.{ℕ}
use mathlib.Core.Path.{◌≡◌, ap, ◌∙◌, subst}
use mathlib.Core.Bool.{true, false}
use mathlib.Core.List.{List, [], ◌∷◌, ◌++◌}
use lib.IntN.{ℤ}
use Rattle.scan.specs.declared.Mode.{Mode}
use Rattle.scan.specs.Next.{next}
use Rattle.scan.specs.Scanner.{x_of, y_of}
use Rattle.language.proofs.Inside.{is_inside}

-- a scanner but for its places
pub record State : Type 0 where
  pub mode : Mode
  pub x : ℤ
  pub y : ℤ

abbrev pub state : Mode → ℤ → ℤ → State
state m x y = record { mode = m; x = x; y = y }

abbrev pub entered : Mode → ℤ → ℤ → State
entered m x y = state m (x_of m x) (y_of m y)

abbrev pub read : State → ℕ → State
read t b = entered (next t.mode b) t.x t.y

-- these bytes lead from one state to another, and each of them to one inside a command
pub data Goes : State → List ℕ → State → Type 0 where
  stays : {t : State} → Goes t [] t
  goes : {t u : State} {l : List ℕ} (b : ℕ) → is_inside (read t b).mode ≡ true → Goes (read t b) l u → Goes t (b ∷ l) u

-- so do these, but for the last, which leads out of it
pub data Ends : State → List ℕ → State → Type 0 where
  last : {t : State} (b : ℕ) → is_inside (read t b).mode ≡ false → Ends t (b ∷ []) (read t b)
  before : {t u : State} {l : List ℕ} (b : ℕ) → is_inside (read t b).mode ≡ true → Ends (read t b) l u → Ends t (b ∷ l) u

pub goes_append : {t u v : State} {k l : List ℕ} → Goes t k u → Goes u l v → Goes t (k ++ l) v
goes_append stays h = h
goes_append (goes b i g) h = goes b i (goes_append g h)

pub goes_ends : {t u v : State} {k l : List ℕ} → Goes t k u → Ends u l v → Ends t (k ++ l) v
goes_ends stays h = h
goes_ends (goes b i g) h = before b i (goes_ends g h)

-- one byte, by what it makes of the mode
pub goes_one : {m n : Mode} (x y : ℤ) (b : ℕ) → next m b ≡ n → is_inside n ≡ true → Goes (state m x y) (b ∷ []) (entered n x y)
goes_one {m} x y b e i = subst (λ (n : Mode). Goes (state m x y) (b ∷ []) (entered n x y)) e (goes b (ap is_inside e ∙ i) stays)
