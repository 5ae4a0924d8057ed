-- An edge of an outline, carried from row to row. Source document 001, figure 14: where it meets a row is kept as a whole column and a remainder, and one row up is two
-- sums and a test. `EdgeCarries` (Theorems) says that the column is the rounded quotient in every row.
use Rattle.std.specs.Prelude.{ℕ, zero, suc, ◌^◌, Bool, cond, ◌&&◌, ℤ, pos, neg_ℤ, ◌+ℤ◌, ◌-ℤ◌, ◌*ℤ◌}
use Rattle.std.specs.Int.Signed.{le_z, lt_z}
use Rattle.integers.specs.Floor.{floor_div}
use Rattle.edge.specs.declared.Edge.{Edge}

-- no edge
abbrev pub nowhere : Edge
nowhere = record { column = pos 0; rest = pos 0; step = pos 0; more = pos 0; by = pos 0 }

-- z is from -m to m
abbrev pub up_to : ℕ → ℤ → Bool
up_to m z = le_z (neg_ℤ (pos m)) z && le_z z (pos m)

-- numbers whose sums fit 64 bits; an edge that was placed and raised has such numbers in every row
abbrev pub is_small : ℤ → Bool
is_small z = up_to (2 ^ 40) z

unfoldable pub fair : Edge → Bool
fair e = is_small e.column && (is_small e.rest && (is_small e.step && (is_small e.more && is_small e.by)))

-- one row up; an edge with other numbers stays as it is
unfoldable pub raised : Edge → Edge
raised e =
    let rest = e.rest +ℤ e.more in
    let column = e.column +ℤ e.step in
    cond (fair e)
    (cond (lt_z rest e.by) (record { column = column; rest = rest; step = e.step; more = e.more; by = e.by })
    (record { column = column +ℤ pos 1; rest = rest -ℤ e.by; step = e.step; more = e.more; by = e.by }))
    e

-- the same k times
abbrev pub raised_by : ℕ → Edge → Edge
raised_by zero e = e
raised_by (suc k) e = raised (raised_by k e)

-- the line through P and Q meets the height h at numerator / (Q.y - P.y), in sixteenths of a pixel
abbrev pub numerator : ℤ → ℤ → ℤ → ℤ → ℤ → ℤ
numerator px py qx qy h = px *ℤ (qy -ℤ py) +ℤ (h -ℤ py) *ℤ (qx -ℤ px)

-- a path's coordinate and 8 times a pen's; a row's height is less
abbrev pub near : ℤ → Bool
near z = up_to 263168 z

-- the edge from P up to Q in the row at the height h; none where a number is out of reach
unfoldable pub placed : ℤ → ℤ → ℤ → ℤ → ℤ → Edge
placed px py qx qy h =
    let dx = qx -ℤ px in
    let dy = qy -ℤ py in
    let by = pos 16 *ℤ dy in
    let num = numerator px py qx qy h in
    let column = floor_div num by in
    let step = floor_div dx dy in
    cond (near px && (near py && (near qx && (near qy && near h))))
    (record { column = column; rest = num -ℤ by *ℤ column; step = step; more = pos 16 *ℤ (dx -ℤ dy *ℤ step); by = by })
    nowhere
