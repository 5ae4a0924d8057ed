-- An answer: a byte for the refusal, one for the number of corners, and two to a corner.
use Rattle.std.specs.Prelude.{ℕ, ◌+◌, ◌*◌, ◌≤◌, ◌≡◌, List, [], ◌∷◌, length, get_or, pos}
use Rattle.integers.specs.Bound.{Abs}
use Rattle.limits.specs.Sizes.{pen_max}
use Rattle.wire.specs.Write.{byte_of}
use Rattle.pen.specs.declared.Built.{Built}
use Rattle.plane.specs.Point.{Pt, corners}

abbrev pub answer_max : ℕ
answer_max = 2 * pen_max + 2

unfoldable pub pairs : List Pt → List ℕ
pairs [] = []
pairs (z ∷ l) = byte_of z.x ∷ byte_of z.y ∷ pairs l

abbrev pub answer : Built → List ℕ
answer b = b.refusal ∷ b.pen.count ∷ pairs (corners b.pen.count b.pen.x b.pen.y)

-- what `build` answers is such: all corners lie in the arrays, and every number fits its byte
pub record Encodable (b : Built) : Type 0 where
  pub refusal_small : b.refusal ≤ 255
  pub few : b.pen.count ≤ pen_max
  pub x_long : length b.pen.x ≡ pen_max
  pub y_long : length b.pen.y ≡ pen_max
  pub x_small : (i : ℕ) → Abs (get_or b.pen.x i (pos 0)) 32
  pub y_small : (i : ℕ) → Abs (get_or b.pen.y i (pos 0)) 32
