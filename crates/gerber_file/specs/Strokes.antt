-- The strokes of a file a second way: from what its commands say (crate language, Grammar), with points in lists, no lent path and no reader. The numbers are
-- written out as the documents have them.
use Rattle.std.specs.Prelude.{ℕ, ◌+◌, ◌*◌, Bool, not, cond, ◌&&◌, List, [], ◌∷◌, ◌++◌, ltb, length, ℤ, pos, neg_ℤ}
use Rattle.std.proofs.Math.Option.{Option, none, some}
use Rattle.std.specs.Int.Signed.{le_z}
use Rattle.plane.specs.Point.{Pt}
use Rattle.units.specs.Units.{in_units}
use Rattle.scan.specs.Scanner.{Word, choose, move, line, end, Said}
use Rattle.gerber.specs.Reader.{Fault}

-- where the drawing stands: the current point, the aperture chosen, the points of the open stroke (none where none is open), and how many entries the
-- strokes have that were handed out
pub record Sheet : Type 0 where
  pub point : Option Pt
  pub aperture : Option ℕ
  pub begun : List Pt
  pub entries : ℕ

abbrev pub blank : Sheet
blank = record { point = none; aperture = none; begun = []; entries = 0 }

-- a stroke with its aperture, its first entry, its points, and the file's bytes used up to its end
pub record Drawn : Type 0 where
  pub aperture : ℕ
  pub first : ℕ
  pub points : List Pt
  pub used : ℕ

-- all strokes of a file, and what it is refused with, if it is
pub record Drawing : Type 0 where
  pub strokes : List Drawn
  pub refusal : Option Fault

-- what a command comes to
pub data Outcome : Type 0 where
  onward : Sheet → Outcome
  hands : Drawn → Sheet → Outcome
  refused : (number : ℕ) → Outcome

abbrev pub twice : List Pt → ℕ
twice ps = 2 * length ps

-- "each coordinate from -262,144 to 262,144"
abbrev pub inside : Pt → Bool
inside p = (le_z (neg_ℤ (pos 262144)) p.x && le_z p.x (pos 262144)) && (le_z (neg_ℤ (pos 262144)) p.y && le_z p.y (pos 262144))

-- "each end an open stroke", which had the aperture a
abbrev pub ends_of : List Pt → ℕ → ℕ → ℕ → Option Pt → Option ℕ → Outcome
ends_of [] a first used point aperture = onward (record { point = point; aperture = aperture; begun = []; entries = first })
ends_of (p ∷ ps) a first used point aperture =
    hands (record { aperture = a; first = first; points = p ∷ ps; used = used }) (record { point = point; aperture = aperture; begun = []; entries = first + twice (p ∷ ps) })

-- a stroke is open only once an aperture is chosen
abbrev pub number_of : Option ℕ → ℕ
number_of none = 0
number_of (some n) = n

-- the stroke ends; the current point and the aperture are then these
abbrev pub ends : Sheet → ℕ → Option Pt → Option ℕ → Outcome
ends s used point aperture = ends_of s.begun (number_of s.aperture) s.entries used point aperture

-- "a D01 with none open starts one at the current point"
abbrev pub joined : List Pt → Pt → Pt → List Pt
joined [] from to = from ∷ to ∷ []
joined (p ∷ ps) from to = (p ∷ ps) ++ (to ∷ [])

abbrev pub ahead : Drawn → Drawing → Drawing
ahead d r = record { strokes = d ∷ r.strokes; refusal = r.refusal }

abbrev pub badly : Option ℕ → Option Fault
badly none = none
badly (some place) = some (record { number = 14; place = place })

module _ (unit : ℕ) (held : ℕ → Bool) (space : ℕ) where
  abbrev pub point_of : ℤ → ℤ → Pt
  point_of x y = record { x = in_units x unit; y = in_units y unit }

  -- 2: 4,097 points; 3; 7: more entries than the path has
  abbrev pub extends : Sheet → Pt → Pt → Outcome
  extends s from to =
      cond (ltb 4096 (length (joined s.begun from to))) (refused 2)
      (cond (not (inside to)) (refused 3)
      (cond (ltb space (s.entries + twice (joined s.begun from to))) (refused 7)
      (onward (record { point = some to; aperture = s.aperture; begun = joined s.begun from to; entries = s.entries }))))

  -- "A D01 with no point yet" 14, "a D01 with a point but no aperture chosen is refusal 6"
  abbrev pub line_from : Sheet → Option Pt → Option ℕ → Pt → Outcome
  line_from s none a to = refused 14
  line_from s (some from) none to = refused 6
  line_from s (some from) (some a) to = extends s from to

  abbrev pub obeys : Sheet → ℕ → Word → Outcome
  obeys s used (choose n) = cond (held n) (ends s used s.point (some n)) (refused 6)
  obeys s used (move x y) = cond (inside (point_of x y)) (ends s used (some (point_of x y)) s.aperture) (refused 3)
  obeys s used (line x y) = line_from s s.point s.aperture (point_of x y)
  obeys s used end = ends s used s.point s.aperture

  -- the commands of a file, and the place of its refusal 14, if any
  unfoldable pub drawn : Sheet → List Said → Option ℕ → Drawing
  drawn s [] bad = record { strokes = []; refusal = badly bad }
  drawn s (c ∷ cs) bad =
      elim (obeys s c.behind c.word) as (λ _. Drawing) [
        | onward q ↦ drawn q cs bad
        | hands d q ↦ ahead d (drawn q cs bad)
        | refused n ↦ record { strokes = []; refusal = some (record { number = n; place = c.place }) }
      ]

-- the entries of points: x and y in turn
unfoldable pub flat : List Pt → List ℤ
flat [] = []
flat (p ∷ ps) = p.x ∷ p.y ∷ flat ps
