-- The scanner: what has been read, where, and the numbers of the two axes; one byte, a chunk, a whole file.
use Rattle.std.specs.Prelude.{ℕ, ◌+◌, min, Bool, true, false, cond, List, [], ◌∷◌, leb, drop, ℤ, pos, neg_ℤ}
use Rattle.std.proofs.Math.Option.{Option, none, some}
use Rattle.scan.specs.declared.Command.{Command}
use Rattle.scan.specs.declared.Command.TheVariants as command·
use Rattle.scan.specs.declared.Gap.{Gap}
use Rattle.scan.specs.declared.Gap.TheVariants as gap·
use Rattle.scan.specs.declared.Axis.{Axis}
use Rattle.scan.specs.declared.Axis.TheVariants.{X, Y}
use Rattle.scan.specs.declared.Sign.{Sign}
use Rattle.scan.specs.declared.Sign.TheVariants.{Plus, Minus}
use Rattle.scan.specs.declared.Mode.{Mode}
use Rattle.scan.specs.declared.Mode.TheVariants.{Bad, Outside, Whole, Number, Inside}
use Rattle.scan.specs.declared.Scanner.{Scanner}
use Rattle.scan.specs.declared.Scanned.{Scanned}
use Rattle.scan.specs.Next.{same_axis, next}

-- "An omitted axis (or both) keeps its last number, 0 at first."
abbrev pub begun : Scanner
begun = record { mode = Outside gap·.First; at = 0; start = 0; x = pos 0; y = pos 0 }

-- one more byte; the count stays at the greatest number of its type
abbrev pub counted : ℕ → ℕ
counted at = min (at + 1) 18446744073709551615

-- "the byte place, from 0, of its start": a command starts with the byte that is read where none has been begun
abbrev pub start_of : Mode → ℕ → ℕ → ℕ
start_of Bad at start = start
start_of (Outside g) at start = at
start_of (Whole c) at start = at
start_of (Number a sign n v) at start = start
start_of (Inside p) at start = start

-- a value with its sign; one of more than nine digits, which no scanner comes to, is 0
abbrev pub nine : ℕ → ℕ
nine v = cond (leb v 999999999) v 0

abbrev pub signed : Sign → ℕ → ℤ
signed Minus v = neg_ℤ (pos (nine v))
signed Plus v = pos (nine v)

-- the number of an axis: what has been read of it, or the last one
abbrev pub number_of : Axis → Mode → ℤ → ℤ
number_of a Bad last = last
number_of a (Outside g) last = last
number_of a (Whole c) last = last
number_of a (Number axis sign n v) last = cond (same_axis axis a) (signed sign v) last
number_of a (Inside p) last = last

abbrev pub x_of : Mode → ℤ → ℤ
x_of m last = number_of X m last

abbrev pub y_of : Mode → ℤ → ℤ
y_of m last = number_of Y m last

unfoldable pub stepped : Scanner → ℕ → Scanner
stepped s b =
    let m = next s.mode b in
    record { mode = m; at = counted s.at; start = start_of s.mode s.at s.start; x = x_of m s.x; y = y_of m s.y }

-- the last byte ended a command, or began none
abbrev pub is_stop : Mode → Bool
is_stop Bad = true
is_stop (Outside g) = false
is_stop (Whole c) = true
is_stop (Number a sign n v) = false
is_stop (Inside p) = false

-- ---- a chunk: up to the first byte that ends a command or that none can have
abbrev pub later : ℕ → Scanned → Scanned
later n r = record { scanner = r.scanner; end = n + r.end }

unfoldable pub scanned : Scanner → List ℕ → Scanned
scanned s [] = record { scanner = s; end = 0 }
scanned s (b ∷ l) = cond (is_stop (stepped s b).mode) (record { scanner = stepped s b; end = 1 }) (later 1 (scanned (stepped s b) l))

abbrev pub scanned_from : Scanner → List ℕ → ℕ → Scanned
scanned_from s l from = later from (scanned s (drop from l))

-- ---- a whole file: the commands that ask for something, each with its place and that behind its last byte, and the place of the refusal 14, if any
pub data Word : Type 0 where
  choose : (n : ℕ) → Word
  move line : (x y : ℤ) → Word
  end : Word

pub record Said : Type 0 where
  pub place : ℕ
  pub behind : ℕ
  pub word : Word

pub record Heard : Type 0 where
  pub said : List Said
  pub bad : Option ℕ

abbrev pub ahead : Scanner → Word → Heard → Heard
ahead s w h = record { said = record { place = s.start; behind = s.at; word = w } ∷ h.said; bad = h.bad }

-- what a whole command asks for, with the numbers of the axes; a header line, a comment and G01 ask for nothing
abbrev pub word_of : Command → ℤ → ℤ → Option Word
word_of command·.Nothing x y = none
word_of (command·.Choose n) x y = some (choose n)
word_of command·.Move x y = some (move x y)
word_of command·.Line x y = some (line x y)
word_of command·.End x y = some end

abbrev pub heard_word : Option Word → Scanner → Heard → Heard
heard_word none s h = h
heard_word (some w) s h = ahead s w h

-- what a scanner has heard with its last byte, before what comes after it
abbrev pub heard_by : Mode → Scanner → Heard → Heard
heard_by Bad s h = record { said = []; bad = some s.start }
heard_by (Outside g) s h = h
heard_by (Whole c) s h = heard_word (word_of c s.x s.y) s h
heard_by (Number a sign n v) s h = h
heard_by (Inside p) s h = h

-- whether the file may end here: M02 has been read
abbrev pub is_ended_gap : Gap → Bool
is_ended_gap gap·.First = false
is_ended_gap gap·.Second = false
is_ended_gap gap·.Between = false
is_ended_gap gap·.Ended = true

abbrev pub is_ended_whole : Command → Bool
is_ended_whole command·.Nothing = false
is_ended_whole (command·.Choose n) = false
is_ended_whole command·.Move = false
is_ended_whole command·.Line = false
is_ended_whole command·.End = true

abbrev pub is_ended : Mode → Bool
is_ended Bad = false
is_ended (Outside g) = is_ended_gap g
is_ended (Whole c) = is_ended_whole c
is_ended (Number a sign n v) = false
is_ended (Inside p) = false

unfoldable pub heard : Scanner → List ℕ → Heard
heard s [] = record { said = []; bad = cond (is_ended s.mode) none (some s.at) }
heard s (b ∷ l) = heard_by (stepped s b).mode (stepped s b) (heard (stepped s b) l)
