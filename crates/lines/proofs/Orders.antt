-- Lists put together: what stands in them, and when the lines of them are in order. For a row, column by column, and for the films of the crate above, row by row.
use mathlib.Core.Path.{refl}
use mathlib.Core.Logic.{◌↔◌, ◌⊎◌, inl, inr}
use mathlib.Core.List.Memᴰ.{append_cases}
use mathlib.Core.List.Memᴰ.{append_left}
use mathlib.Core.List.Memᴰ.{append_right}
use mathlib.Core.List.Memᴰ.{head}
use mathlib.Core.List.Memᴰ.{tail}
use mathlib.Core.List.{List, [], ◌∷◌, ◌++◌}
use Rattle.integers.specs.Count.{◌∈◌}
use Rattle.lines.specs.Lines.{Line}
use Rattle.lines.specs.Theorems.{Before, Ordered}

-- what stands in two lists put together stands in one of them
pub in_append : {A : Type 0} (x : A) (l m : List A) → (x ∈ (l ++ m)) ↔ ((x ∈ l) ⊎ (x ∈ m))
in_append x l m = ((λ k. append_cases l k), λ h. elim h [ inl k ↦ append_left m k | inr k ↦ append_right l k ])

-- lines in order, and behind them others in order: all are in order, where each of the first comes before each of the others
pub ordered_append : (l m : List Line) → Ordered l → Ordered m → ((x y : Line) → x ∈ l → y ∈ m → Before x y) → Ordered (l ++ m)
ordered_append [] m h k b = k
ordered_append (x ∷ l) m h k b = (
  (λ y i. elim ((in_append y l m).0 i) [ inl j ↦ h.0 y j | inr j ↦ b x y (head refl) j ]),
  ordered_append l m h.1 k (λ y z i j. b y z (tail i) j),
)
