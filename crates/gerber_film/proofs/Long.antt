-- A stroke has two points or more: an invariant of the second reading, in which a line with no stroke open begins one with two.
use Prim.Native.Nat.{ℕ, ◌+◌, ◌≤◌}
use native.Mathlib.Omega.{arith}
use mathlib.Core.Bool.{Bool, true, false, not, cond}
use mathlib.Core.List.{List, [], ◌∷◌}
use mathlib.Core.Option.{Option, none, some}
use lib.Dec.{ltb}
use lib.ListN.{length, length-append}
use Rattle.plane.specs.Point.{Pt}
use Rattle.scan.specs.Scanner.{Word, choose, move, line, end, Said}
use Rattle.gerber_file.specs.Strokes.{Sheet, Drawn, Drawing, Outcome, onward, hands, refused, blank, twice, inside}
use Rattle.gerber_file.specs.Strokes.{ends_of, number_of, joined, point_of, extends, line_from, obeys, ahead, drawn}
use Rattle.gerber_file.specs.Theorems.{All, no_more, one_more}

abbrev pub Long : Drawn → Type 0
Long d = 2 ≤ length d.points

-- so the open stroke, if one is open
abbrev LongIfOpen : List Pt → Type 0
LongIfOpen [] = Unit
LongIfOpen (p ∷ ps) = 2 ≤ length (p ∷ ps)

-- what a command comes to
data Left : Outcome → Type 0 where
  goes_on : {q : Sheet} → LongIfOpen q.begun → Left (onward q)
  hands_out : {d : Drawn} {q : Sheet} → Long d → LongIfOpen q.begun → Left (hands d q)
  stops : {n : ℕ} → Left (refused n)

-- by a test
left_cond : {a b : Outcome} (c : Bool) → Left a → Left b → Left (cond c a b)
left_cond true f g = f
left_cond false f g = g

-- ---- one command
ends_long : (ps : List Pt) (n first used : ℕ) (p : Option Pt) (a : Option ℕ) → LongIfOpen ps → Left (ends_of ps n first used p a)
ends_long [] n first used p a h = goes_on tt
ends_long (x ∷ xs) n first used p a h = hands_out h tt

joined_long : (ps : List Pt) (from to : Pt) → LongIfOpen ps → LongIfOpen (joined ps from to)
joined_long [] from to h = omega arith
joined_long (p ∷ ps) from to h = omega (arith, length-append ps (to ∷ []), h)

module _ (unit : ℕ) (held : ℕ → Bool) (space : ℕ) where
  extends_long : (q : Sheet) (from to : Pt) → LongIfOpen q.begun → Left (extends unit held space q from to)
  extends_long q from to h =
      left_cond (ltb 4096 (length (joined q.begun from to))) stops
      (left_cond (not (inside to)) stops (left_cond (ltb space (q.entries + twice (joined q.begun from to))) stops (goes_on (joined_long q.begun from to h))))

  line_long : (q : Sheet) (p : Option Pt) (a : Option ℕ) (to : Pt) → LongIfOpen q.begun → Left (line_from unit held space q p a to)
  line_long q none a to h = stops
  line_long q (some from) none to h = stops
  line_long q (some from) (some n) to h = extends_long q from to h

  obeys_long : (q : Sheet) (used : ℕ) (w : Word) → LongIfOpen q.begun → Left (obeys unit held space q used w)
  obeys_long q used (choose n) h = left_cond (held n) (ends_long q.begun (number_of q.aperture) q.entries used q.point (some n) h) stops
  obeys_long q used (move x y) h =
      let p = point_of unit held space x y in
      left_cond (inside p) (ends_long q.begun (number_of q.aperture) q.entries used (some p) q.aperture h) stops
  obeys_long q used (line x y) h = line_long q q.point q.aperture (point_of unit held space x y) h
  obeys_long q used end h = ends_long q.begun (number_of q.aperture) q.entries used q.point q.aperture h

  -- ---- and all
  -- the commands behind one, which give f
  behind : {o : Outcome} (f : Sheet → Drawing) (place : ℕ) → ((q : Sheet) → LongIfOpen q.begun → All Long (f q).strokes) → Left o →
      All Long
      (elim o as (λ _. Drawing) [
        | onward q ↦ f q
        | hands d q ↦ ahead d (f q)
        | refused n ↦ record { strokes = []; refusal = some (record { number = n; place = place }) }
      ]).strokes
  behind f place long (goes_on {q} h) = long q h
  behind f place long (hands_out {q = q} d h) = one_more d (long q h)
  behind f place long stops = no_more

  all_long : (q : Sheet) (cs : List Said) (bad : Option ℕ) → LongIfOpen q.begun → All Long (drawn unit held space q cs bad).strokes
  unfolding drawn
  all_long q [] bad h = no_more
  all_long q (c ∷ cs) bad h = behind (λ q. drawn unit held space q cs bad) c.place (λ q h. all_long q cs bad h) (obeys_long q c.behind c.word h)

  -- a file starts with a blank sheet
  pub drawn_long : (cs : List Said) (bad : Option ℕ) → All Long (drawn unit held space blank cs bad).strokes
  drawn_long cs bad = all_long blank cs bad tt
