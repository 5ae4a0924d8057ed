-- The table of modes: what the next byte makes of what has been read of a command. The text beside a line is the byte's, in ASCII. That the modes
-- are those of W4's commands, and of no others, is said by the crate language.
use Rattle.std.specs.Prelude.{ℕ, ◌+◌, ◌*◌, ◌-◌, Bool, true, false, ◌&&◌, ◌||◌, List, [], ◌∷◌, leb, ltb, eqb, get_or}
use Rattle.scan.specs.declared.Command.{Command}
use Rattle.scan.specs.declared.Command.TheVariants.{Nothing, Choose, Move, Line, End}
use Rattle.scan.specs.declared.Mode.{Mode}
use Rattle.scan.specs.declared.Mode.TheVariants.{Bad, Outside, Whole, Number, Inside}
use Rattle.scan.specs.declared.Gap.{Gap}
use Rattle.scan.specs.declared.Gap.TheVariants.{First, Second, Between, Ended}
use Rattle.scan.specs.declared.Axis as axis·
use Rattle.scan.specs.declared.Axis.TheVariants.{X, Y}
use Rattle.scan.specs.declared.Sign as sign·
use Rattle.scan.specs.declared.Sign.TheVariants.{Plus, Minus}
use Rattle.scan.specs.declared.Part.{Part}
use Rattle.scan.specs.declared.Part.TheVariants.{Header, G, GZero, Linear, Comment, D, DZero, LineOp, MoveOp, Tens, Aperture, Axis, Signed, PlotD, M, MZero, EndOp}

-- "0" to "9"
abbrev pub is_digit : ℕ → Bool
is_digit b = leb 48 b && leb b 57

abbrev pub digit_of : ℕ → ℕ
digit_of b = b - 48

-- CR or LF
abbrev pub is_line_end : ℕ → Bool
is_line_end b = eqb b 13 || eqb b 10

abbrev pub same_axis : axis·.Axis → axis·.Axis → Bool
same_axis X X = true
same_axis X Y = false
same_axis Y X = false
same_axis Y Y = true

abbrev pub pick : Bool → Mode → Mode → Mode
pick true m n = m
pick false m n = n

-- this mode, or no command
abbrev pub only : Bool → Mode → Mode
only t m = pick t m Bad

-- "%FSLAX36Y36*%" and "%MOMM*%"
abbrev pub header_bytes : List ℕ
header_bytes = 37 ∷ 70 ∷ 83 ∷ 76 ∷ 65 ∷ 88 ∷ 51 ∷ 54 ∷ 89 ∷ 51 ∷ 54 ∷ 42 ∷ 37 ∷ 37 ∷ 77 ∷ 79 ∷ 77 ∷ 77 ∷ 42 ∷ 37 ∷ []

-- X, Y, D, G, M
abbrev pub between : ℕ → Mode
between b =
    pick (is_line_end b) (Outside Between) (pick (eqb b 88) (Inside (Axis X)) (pick (eqb b 89) (Inside (Axis Y)) (pick (eqb b 68) (Inside D) (pick (eqb b 71) (Inside G) (only (eqb b 77) (Inside M))))))

abbrev pub header : ℕ → ℕ → Mode
header i b = only (ltb i 20 && eqb b (get_or header_bytes i 0)) (pick (eqb i 12) (Outside Second) (pick (eqb i 19) (Whole Nothing) (Inside (Header (i + 1)))))

-- a line end before a header line, or its first byte: "%"
abbrev pub lead : Gap → ℕ → ℕ → Mode
lead g i b = pick (is_line_end b) (Outside g) (only (eqb b 37) (Inside (Header i)))

-- one more digit, where there are fewer than nine
abbrev pub digits : axis·.Axis → sign·.Sign → ℕ → ℕ → ℕ → Mode
digits a sign count value b = only (ltb count 9 && ltb value 100000000) (Number a sign (count + 1) (10 * value + digit_of b))

-- behind a number: a digit, Y behind an X, D
abbrev pub number : axis·.Axis → sign·.Sign → ℕ → ℕ → ℕ → Mode
number a sign count value b = pick (is_digit b) (digits a sign count value b) (pick (eqb b 89) (only (same_axis a X) (Inside (Axis Y))) (only (eqb b 68) (Inside PlotD)))

-- a whole command is followed by another; M02 by line ends alone
abbrev pub after_whole : Command → ℕ → Mode
after_whole Nothing b = between b
after_whole (Choose n) b = between b
after_whole Move b = between b
after_whole Line b = between b
after_whole End b = only (is_line_end b) (Outside Ended)

-- "+", "-"
abbrev pub axis : axis·.Axis → ℕ → Mode
axis a b = pick (eqb b 43) (Inside (Signed a Plus)) (pick (eqb b 45) (Inside (Signed a Minus)) (only (is_digit b) (Number a Plus 1 (digit_of b))))

abbrev pub choice : ℕ → ℕ → Mode
choice t b = only (is_digit b && ltb t 10) (Inside (Aperture (10 * t + digit_of b)))

-- "0", or the first digit of 10 to 99
abbrev pub after_d : ℕ → Mode
after_d b = pick (eqb b 48) (Inside DZero) (only (is_digit b) (Inside (Tens (digit_of b))))

abbrev pub after_gap : Gap → ℕ → Mode
after_gap First b = lead First 1 b
after_gap Second b = lead Second 14 b
after_gap Between b = between b
after_gap Ended b = only (is_line_end b) (Outside Ended)

-- "0" 48, "1" 49, "2" 50, "4" 52, "*" 42
abbrev pub after_part : Part → ℕ → Mode
after_part (Header i) b = header i b
after_part G b = only (eqb b 48) (Inside GZero)
after_part GZero b = pick (eqb b 49) (Inside Linear) (only (eqb b 52) (Inside Comment))
after_part Linear b = only (eqb b 42) (Whole Nothing)
after_part Comment b = pick (eqb b 42) (Whole Nothing) (Inside Comment)
after_part D b = after_d b
after_part DZero b = pick (eqb b 49) (Inside LineOp) (only (eqb b 50) (Inside MoveOp))
after_part LineOp b = only (eqb b 42) (Whole Line)
after_part MoveOp b = only (eqb b 42) (Whole Move)
after_part (Tens t) b = choice t b
after_part (Aperture n) b = only (eqb b 42) (Whole (Choose n))
after_part (Axis a) b = axis a b
after_part (Signed a sign) b = only (is_digit b) (Number a sign 1 (digit_of b))
after_part PlotD b = only (eqb b 48) (Inside DZero)
after_part M b = only (eqb b 48) (Inside MZero)
after_part MZero b = only (eqb b 50) (Inside EndOp)
after_part EndOp b = only (eqb b 42) (Whole End)

abbrev pub next : Mode → ℕ → Mode
next Bad b = Bad
next (Outside g) b = after_gap g b
next (Whole c) b = after_whole c b
next (Number a sign count value) b = number a sign count value b
next (Inside p) b = after_part p b
