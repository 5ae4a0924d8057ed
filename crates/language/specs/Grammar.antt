-- The language of W4, in the request's own words and without the scanner: how each command is spelled, which may come next, and where a file is
-- refused with 14.
use Rattle.std.specs.Prelude.{ℕ, suc, ◌+◌, ◌*◌, ◌≤◌, ◌≡◌, ◌⊎◌, List, [], ◌∷◌, ◌++◌, length, ℤ, pos, neg_ℤ}
use Rattle.std.proofs.Math.Option.{Option, none, some}
use Rattle.text.specs.Ascii.{ascii}
use Rattle.scan.specs.Scanner.{Word, choose, move, line, end, Said}

-- ---- numbers
-- the byte of a digit: "0" is 48
pub data Digit : ℕ → ℕ → Type 0 where
  digit : (d : ℕ) → d ≤ 9 → Digit (48 + d) d

-- so many digits, and their value, read from the left
pub data Digits : List ℕ → ℕ → ℕ → Type 0 where
  one : {b d : ℕ} → Digit b d → Digits (b ∷ []) 1 d
  then : {l : List ℕ} {n v b d : ℕ} → Digits l n v → Digit b d → Digits (l ++ (b ∷ [])) (suc n) (10 * v + d)

-- "Numbers have 1 to 9 digits, perhaps a sign"
pub data Number : List ℕ → ℤ → Type 0 where
  plain : {l : List ℕ} {n v : ℕ} → Digits l n v → n ≤ 9 → Number l (pos v)
  plus : {l : List ℕ} {n v : ℕ} → Digits l n v → n ≤ 9 → Number (ascii "+" ++ l) (pos v)
  minus : {l : List ℕ} {n v : ℕ} → Digits l n v → n ≤ 9 → Number (ascii "-" ++ l) (neg_ℤ (pos v))

-- ---- commands
-- an axis: its letter and a number, or, "An omitted axis", nothing
pub data Axis (letter : List ℕ) : List ℕ → Option ℤ → Type 0 where
  omitted : Axis letter [] none
  named : {l : List ℕ} {z : ℤ} → Number l z → Axis letter (letter ++ l) (some z)

-- no byte of these is a "*"
pub data NoStar : List ℕ → Type 0 where
  no_byte : NoStar []
  no_star : {b : ℕ} {l : List ℕ} → ¬ (b ≡ 42) → NoStar l → NoStar (b ∷ l)

pub data Form : Type 0 where
  format units comment linear closing : Form
  choice : ℕ → Form
  moving drawing : Option ℤ → Option ℤ → Form

pub data Spelled : Form → List ℕ → Type 0 where
  -- "the lines %FSLAX36Y36*% and %MOMM*%"
  spelled_format : Spelled format (ascii "%FSLAX36Y36*%")
  spelled_units : Spelled units (ascii "%MOMM*%")
  -- "G04 comments up to the next *"
  spelled_comment : (t : List ℕ) → NoStar t → Spelled comment (ascii "G04" ++ t ++ ascii "*")
  -- "G01"
  spelled_linear : Spelled linear (ascii "G01*")
  -- "aperture choice Dnn (nn 10 to 99)"
  spelled_choice : {l : List ℕ} {n : ℕ} → Digits l 2 n → 10 ≤ n → Spelled (choice n) (ascii "D" ++ l ++ ascii "*")
  -- "X and Y with D01 or D02"
  spelled_drawing : {k l : List ℕ} {x y : Option ℤ} → Axis (ascii "X") k x → Axis (ascii "Y") l y → Spelled (drawing x y) (k ++ l ++ ascii "D01*")
  spelled_moving : {k l : List ℕ} {x y : Option ℤ} → Axis (ascii "X") k x → Axis (ascii "Y") l y → Spelled (moving x y) (k ++ l ++ ascii "D02*")
  -- "and M02 at the end"
  spelled_closing : Spelled closing (ascii "M02*")

-- ---- a file
-- before the first line, before the second, after both, after M02
pub data Phase : Type 0 where
  first second commands ended : Phase

-- "the lines .. first, in that order, once each; then .. and M02 at the end"
pub data Allowed : Phase → Form → Phase → Type 0 where
  allowed_format : Allowed first format second
  allowed_units : Allowed second units commands
  allowed_comment : Allowed commands comment commands
  allowed_linear : Allowed commands linear commands
  allowed_choice : (n : ℕ) → Allowed commands (choice n) commands
  allowed_moving : (x y : Option ℤ) → Allowed commands (moving x y) commands
  allowed_drawing : (x y : Option ℤ) → Allowed commands (drawing x y) commands
  allowed_closing : Allowed commands closing ended

-- CR or LF
abbrev pub LineEnd : ℕ → Type 0
LineEnd b = (b ≡ 13) ⊎ (b ≡ 10)

-- a command of the file, with its place and that behind its last byte
pub record Placed : Type 0 where
  pub place : ℕ
  pub behind : ℕ
  pub form : Form

-- `Reads p i l fs bad`: in phase p the bytes l, the first of them at place i, are the commands fs, and then all is well (none), or there is a refusal 14
-- at some place
pub data Reads : Phase → ℕ → List ℕ → List Placed → Option ℕ → Type 0 where
  whole : (i : ℕ) → Reads ended i [] [] none
  -- "CR and LF outside commands are skipped"
  skipped : {p : Phase} {i b : ℕ} {l : List ℕ} {fs : List Placed} {bad : Option ℕ} → LineEnd b → Reads p (suc i) l fs bad → Reads p i (b ∷ l) fs bad
  command : {p q : Phase} {i : ℕ} {f : Form} {l : List ℕ} {fs : List Placed} {bad : Option ℕ} (w : List ℕ) → Allowed p f q → Spelled f w → Reads q (i + length w) l fs bad →
      Reads p i (w ++ l) (record { place = i; behind = i + length w; form = f } ∷ fs) bad
  -- "a missing M02 .. (of the end, for M02 ..)"
  missing : {p : Phase} (i : ℕ) → ¬ (p ≡ ended) → Reads p i [] [] (some i)
  -- "(of the end, for .. an allowed command cut off there)"
  cut : {p q : Phase} {f : Form} (i b c : ℕ) (l m : List ℕ) → Allowed p f q → Spelled f (b ∷ l ++ (c ∷ m)) → Reads p i (b ∷ l) [] (some (i + length (b ∷ l)))
  -- "any other command, anything after M02 but line ends .. the byte place, from 0, of its start"
  other : {p : Phase} (i b : ℕ) (l : List ℕ) → ¬ LineEnd b → ((q : Phase) (f : Form) (w m : List ℕ) → w ++ m ≡ b ∷ l → Allowed p f q → ¬ Spelled f w) →
      ((q : Phase) (f : Form) (m : List ℕ) → Allowed p f q → ¬ Spelled f (b ∷ l ++ m)) → Reads p i (b ∷ l) [] (some i)

-- ---- what the commands say
-- "An omitted axis (or both) keeps its last number"
abbrev pub kept : Option ℤ → ℤ → ℤ
kept none before = before
kept (some z) before = z

-- what a command asks for, x and y being the last numbers: nothing, for a header line, a comment and G01
abbrev pub says : Form → ℤ → ℤ → Option Word
says format x y = none
says units x y = none
says comment x y = none
says linear x y = none
says closing x y = some end
says (choice n) x y = some (choose n)
says (moving u v) x y = some (move (kept u x) (kept v y))
says (drawing u v) x y = some (line (kept u x) (kept v y))

-- the last number of X, and of Y, after a command
abbrev pub last_x : Form → ℤ → ℤ
last_x format x = x
last_x units x = x
last_x comment x = x
last_x linear x = x
last_x closing x = x
last_x (choice n) x = x
last_x (moving u v) x = kept u x
last_x (drawing u v) x = kept u x

abbrev pub last_y : Form → ℤ → ℤ
last_y format y = y
last_y units y = y
last_y comment y = y
last_y linear y = y
last_y closing y = y
last_y (choice n) y = y
last_y (moving u v) y = kept v y
last_y (drawing u v) y = kept v y

abbrev pub said_by : Placed → Option Word → List Said → List Said
said_by p none l = l
said_by p (some w) l = record { place = p.place; behind = p.behind; word = w } ∷ l

unfoldable pub said : ℤ → ℤ → List Placed → List Said
said x y [] = []
said x y (p ∷ ps) = said_by p (says p.form x y) (said (last_x p.form x) (last_y p.form y) ps)
