-- The bytes of a plot, followed: X, Y, "D01*" and "D02*".
use Prim.Native.Nat.{ℕ}
use mathlib.Core.Path.{◌≡◌, refl}
use mathlib.Core.List.{List, ◌++◌}
use mathlib.Core.Option.{Option}
use lib.IntN.{ℤ}
use Rattle.text.specs.Ascii.{ascii}
use Rattle.scan.specs.declared.Axis as axis·
use Rattle.scan.specs.declared.Axis.TheVariants.{X, Y}
use Rattle.scan.specs.declared.Sign as sign·
use Rattle.scan.specs.declared.Mode.{Mode}
use Rattle.scan.specs.declared.Mode.TheVariants as mode·
use Rattle.scan.specs.declared.Gap.TheVariants as gap·
use Rattle.scan.specs.declared.Command.TheVariants as command·
use Rattle.scan.specs.declared.Part.TheVariants as part·
use Rattle.scan.specs.Next.{next}
use Rattle.language.specs.Grammar.{Axis, omitted, named, kept}
use Rattle.language.proofs.Walks.{state, Goes, stays, Ends, last, before, goes_append, goes_ends}
use Rattle.language.proofs.Numbers.{named_goes}

-- the modes in which Y, and D, may come
pub data BeforeY : Mode → Type 0 where
  none_yet : BeforeY (mode·.Outside gap·.Between)
  number : (s : sign·.Sign) (n v : ℕ) → BeforeY (mode·.Number X s n v)

pub data BeforeD : Mode → Type 0 where
  no_axis : BeforeD (mode·.Outside gap·.Between)
  some_axis : (a : axis·.Axis) (s : sign·.Sign) (n v : ℕ) → BeforeD (mode·.Number a s n v)

-- an axis that leads to such a mode
record Axed (P : Mode → Type 0) (m : Mode) (x y : ℤ) (l : List ℕ) (u v : ℤ) : Type 0 where
  mode : Mode
  ready : P mode
  axed : Goes (state m x y) l (state mode u v)

-- X, named or not, and Y behind it
x_goes : (x y : ℤ) {l : List ℕ} {u : Option ℤ} → Axis (ascii "X") l u → Axed BeforeY (mode·.Outside gap·.Between) x y l (kept u x) y
unfolding ascii
x_goes x y omitted = record { mode = mode·.Outside gap·.Between; ready = none_yet; axed = stays }
x_goes x y (named n) =
    let h = named_goes (mode·.Outside gap·.Between) X x y 88 refl n in
    record { mode = mode·.Number X h.sign h.count h.value; ready = number h.sign h.count h.value; axed = h.numbered }

y_goes : {m : Mode} → BeforeY m → (x y : ℤ) {l : List ℕ} {u : Option ℤ} → Axis (ascii "Y") l u → Axed BeforeD m x y l x (kept u y)
unfolding ascii
y_goes {m} r x y omitted = record { mode = m; ready = still r; axed = stays }
  where
    still : {m : Mode} → BeforeY m → BeforeD m
    still none_yet = no_axis
    still (number s n v) = some_axis X s n v
y_goes {m} r x y (named n) =
    let h = named_goes m Y x y 89 (letter r) n in
    record { mode = mode·.Number Y h.sign h.count h.value; ready = some_axis Y h.sign h.count h.value; axed = h.numbered }
  where
    letter : {m : Mode} → BeforeY m → next m 89 ≡ mode·.Inside (part·.Axis Y)
    letter none_yet = refl
    letter (number s n v) = refl

-- "D01*" and "D02*"
pub line_ends : (m : Mode) → BeforeD m → (x y : ℤ) → Ends (state m x y) (ascii "D01*") (state (mode·.Whole command·.Line) x y)
unfolding ascii
line_ends m no_axis x y = before 68 refl (before 48 refl (before 49 refl (last 42 refl)))
line_ends m (some_axis a s n v) x y = before 68 refl (before 48 refl (before 49 refl (last 42 refl)))

pub move_ends : (m : Mode) → BeforeD m → (x y : ℤ) → Ends (state m x y) (ascii "D02*") (state (mode·.Whole command·.Move) x y)
unfolding ascii
move_ends m no_axis x y = before 68 refl (before 48 refl (before 50 refl (last 42 refl)))
move_ends m (some_axis a s n v) x y = before 68 refl (before 48 refl (before 50 refl (last 42 refl)))

-- a plot that ends so
pub plot_ends : (x y : ℤ) {k l w : List ℕ} {u v : Option ℤ} (n : Mode) → ((m : Mode) → BeforeD m → (x y : ℤ) → Ends (state m x y) w (state n x y)) →
    Axis (ascii "X") k u → Axis (ascii "Y") l v → Ends (state (mode·.Outside gap·.Between) x y) (k ++ l ++ w) (state n (kept u x) (kept v y))
plot_ends x y {u = u} {v} n f h i =
    let g = x_goes x y h in
    let j = y_goes g.ready (kept u x) y i in
    goes_ends (goes_append g.axed j.axed) (f j.mode j.ready (kept u x) (kept v y))
