-- Document 01, "Units and sizes" and "Refusal numbers": the table of apertures.
use Rattle.std.specs.Prelude.{ℕ, ◌-◌, Bool, true, false, not, ◌&&◌, List, [], get_or, set, replicate}
use Rattle.setting.specs.declared.Setting.{Setting}
use Rattle.limits.specs.Sizes.{within, aperture_min, aperture_max, places}
use Rattle.limits.specs.Refusal.{number, aperture, in_use, refuse, unless, ◌then◌}
use Rattle.limits.specs.declared.Verdict.{Verdict}
use Rattle.limits.specs.declared.Verdict.TheVariants.{Passed, Refused}
use Rattle.setting.specs.Answer.{checked, checked_verdict}
use Rattle.plane.specs.Point.{Pt}
use Rattle.pen.specs.Polygon.{pen}
use Rattle.pen.specs.Answer.{pen_of, pen_corners}
use Rattle.aperture.specs.declared.Place.{Place}
use Rattle.aperture.specs.declared.Table.{Table}
use Rattle.aperture.specs.declared.Changed.{Changed}
use Rattle.aperture.specs.declared.Looked.{Looked}
use Rattle.aperture.specs.declared.Looked.TheVariants as looked·

-- "Apertures are numbered 10 to 41: 32 places, each empty or holding a setting and its pen."
abbrev pub is_number : ℕ → Bool
is_number n = within n aperture_min aperture_max

abbrev pub vacant : Place
vacant = record { used = false; setting = record { w = 0; p = 0; q = 0 }; pen = pen_of [] }

abbrev pub holding : Setting → Place
holding σ = record { used = true; setting = σ; pen = pen_of (pen σ) }

-- "The table starts empty"
abbrev pub empty : Table
empty = record { places = replicate places vacant }

abbrev pub place_of : Table → ℕ → Place
place_of t n = get_or t.places (n - aperture_min) vacant

abbrev pub with_place : Table → ℕ → Place → Table
with_place t n p = record { places = set t.places (n - aperture_min) p }

-- "The first that applies is the answer .. and nothing lent is changed": the table at entry is `before`, and `after` where the checks pass
abbrev pub changed : Verdict → Table → Table → Changed
changed Passed after before = record { refusal = 0; table = after }
changed (Refused n place) after before = record { refusal = n; table = before }

-- "Defining checks number (6), setting (1), in use (8)."
abbrev pub define_verdict : Table → ℕ → Setting → Verdict
define_verdict t n σ = unless (is_number n) aperture then checked_verdict (checked σ) then unless (not (place_of t n).used) in_use

-- "A definition that succeeds makes its own aperture hold exactly the setting given and that setting's pen .. every other aperture stays as it was."
unfoldable pub defined : Table → ℕ → Setting → Changed
defined t n σ = changed (define_verdict t n σ) (with_place t n (holding σ)) t

-- "aperture number outside 10 to 41, or empty where a pen is needed or removed"
abbrev pub is_held : Table → ℕ → Bool
is_held t n = is_number n && (place_of t n).used

-- "a removal that succeeds makes its own empty"
unfoldable pub removed : Table → ℕ → Changed
removed t n = changed (unless (is_held t n) aperture) (with_place t n vacant) t

-- the place of an aperture that is in use
unfoldable pub looked : Table → ℕ → Looked
looked t n = elim (is_held t n) [ false ↦ looked·.Refused | true ↦ looked·.At (n - aperture_min) ]

-- "For an answer that is an enum, a definition gives this paper's number .. for each of its cases"
abbrev pub looked_number : Looked → ℕ
looked_number (looked·.At i) = 0
looked_number looked·.Refused = number aperture

-- the same among the checks of a call
abbrev pub looked_verdict : Looked → Verdict
looked_verdict (looked·.At i) = Passed
looked_verdict looked·.Refused = refuse aperture 0

-- the corners of an aperture's pen, whatever its place holds
abbrev pub held_corners : Table → ℕ → List Pt
held_corners t n = pen_corners (place_of t n).pen
