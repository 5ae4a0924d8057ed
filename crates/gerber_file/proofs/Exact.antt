-- ExactStrokes: calls over a file give what reading all its bytes gives (AnyChunks); that is what the second reading gives of what the scanner
-- hears (Bytes); and the scanner hears what the grammar says (crate language, HeardExactly).
use Prim.Native.Nat.{ℕ, ◌<◌}
use mathlib.Core.Path.{◌≡◌, refl, sym, ap, ◌∙◌, subst}
use mathlib.Core.Bool.{Bool, true, cond}
use mathlib.Core.List.{List, []}
use native.Mathlib.Omega.{arith}
use lib.ListN.{length}
use lib.IntN.{ℤ}
use Rattle.limits.specs.Refusal.{number, setting}
use Rattle.aperture.specs.declared.Table.{Table}
use Rattle.aperture.specs.Table.{is_held}
use Rattle.units.specs.Units.{is_unit}
use Rattle.scan.specs.Scanner.{begun, Heard, heard}
use Rattle.language.proofs.Theorems.{heard_exactly}
use Rattle.chunks.specs.Machine as chunks·
use Rattle.gerber.specs.declared.Reader.{Reader}
use Rattle.gerber.specs.Reader.{State, latched, fresh, started, step_of}
use Rattle.gerber_file.specs.Strokes.{Drawing, blank, drawn, flat}
use Rattle.gerber_file.specs.Theorems.{ExactlyThese, ExactStrokes}
use Rattle.gerber_file.proofs.Chunking.{AllRead, calls_read}
use Rattle.gerber_file.proofs.Sim.{Sim}
use Rattle.gerber_file.proofs.Bytes.{Matches, bytes_alike}

-- ---- before the first byte
pub started_fresh : (unit : ℕ) → is_unit unit ≡ true → started unit ≡ fresh unit
unfolding started
started_fresh unit h = ap (λ (b : Bool). cond b (fresh unit) (latched (fresh unit) (number setting) 0)) h

abbrev pub start : ℕ → List ℤ → State
start unit p = record { reader = fresh unit; path = p }

-- nothing is drawn in either reading
blank_sim : (unit : ℕ) (p : List ℤ) → Sim unit (length p) [] (start unit p) blank
unfolding flat
blank_sim unit p =
    record { same_unit = refl; room = refl; begins = refl; entries = refl; filled = refl; fits = omega arith; holds = refl; point = refl; aperture = refl }

-- ---- the whole file
-- reading all bytes, against the second reading of any account of what is heard
pub all_alike : (t : Table) (unit : ℕ) (p : List ℤ) (l : List ℕ) (h : Heard) → length l < 18446744073709551616 → heard begun l ≡ h →
    Matches [] (chunks·.read (step_of t) 0 (start unit p) l) (drawn unit (is_held t) (length p) blank h.said h.bad)
all_alike t unit p l h lt e =
    subst (λ (z : Heard). Matches [] (chunks·.read (step_of t) 0 (start unit p) l) (drawn unit (is_held t) (length p) blank z.said z.bad)) e
    (bytes_alike t unit (length p) l 0 [] (start unit p) blank (blank_sim unit p) refl refl (omega arith))

-- calls that gave what reading all bytes gives
exactly : (d : Drawing) (r z : AllRead) → r ≡ z → Matches [] r d → ExactlyThese d z.given z.failure z.state.reader z.state.path
exactly d r z e h = let m = subst (λ (y : AllRead). Matches [] y d) e h in record { strokes = m.strokes; stand = m.stand; refusal = m.refusal }

pub exact_strokes : ExactStrokes
exact_strokes unit t p q l fs bad given fault u isU lt reads calls =
    let all : AllRead = record { given = given; failure = fault; state = record { reader = u; path = q } } in
    let e = started_fresh unit isU in
    let r = calls_read t 0 (started unit) u p q l given fault (ap (λ (z : Reader). z.refusal) e) calls in
    let same : chunks·.read (step_of t) 0 (start unit p) l ≡ all = ap (λ (z : Reader). chunks·.read (step_of t) 0 (record { reader = z; path = p }) l) (sym e) ∙ r in
    exactly _ _ all same (all_alike t unit p l _ lt (heard_exactly l fs bad lt reads))
