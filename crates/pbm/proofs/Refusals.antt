-- What a call that puts a file refuses: the raster's check and the room's, held against the table.
use Prim.Native.Nat.{ℕ}
use mathlib.Core.Path.{◌≡◌, refl, sym, ◌∙◌}
use mathlib.Core.Bool.{Bool, true, false, ◌&&◌}
use mathlib.Core.List.{List}
use lib.Dec.{leb}
use lib.ListN.{length}
use Rattle.limits.specs.Sizes.{is_size}
use Rattle.limits.specs.Refusal.{raster, room, unless, ◌then◌}
use Rattle.limits.specs.declared.Verdict.{Verdict}
use Rattle.limits.proofs.Exactly.{place_of, says_first, says_last}
use Rattle.checks.specs.Checks.{raster_verdict, room_verdict}
use Rattle.checks.specs.Answer.{given}
use Rattle.checks.proofs.Exactly.{raster_says, room_says, settled_number, settled_place, settled_none}
use Rattle.pbm.specs.Pbm.{header, file_offer}
use Rattle.pbm.specs.Theorems.{FileRefuses, HeaderRefuses}

no_place : (columns rows needed space : ℕ) → place_of (raster_verdict columns rows then room_verdict needed space) ≡ 0
no_place columns rows needed space = go (is_size columns && is_size rows) (leb needed space)
  where
    go : (s t : Bool) → place_of (unless s raster then unless t room) ≡ 0
    go true true = refl
    go true false = refl
    go false t = refl

pub file_refuses : (columns rows : ℕ) (f b : List ℕ) → FileRefuses columns rows (length f) b (given (raster_verdict columns rows) (file_offer f b))
file_refuses columns rows f b =
    let v : Verdict = raster_verdict columns rows then room_verdict (length f) (length b) in
    let o = file_offer f b in
    let e = settled_number v o in record {
      exactly = λ k. let x = says_first (raster_says columns rows) _ _ (says_last (room_says (length f) (length b))) k in ((λ q. x.0 (sym e ∙ q)), λ q. e ∙ x.1 q);
      nowhere = settled_place v o ∙ no_place columns rows (length f) (length b);
      none = λ h. (settled_none v o h).0;
      kept = λ h. (settled_none v o h).1;
    }

pub header_refuses : HeaderRefuses
header_refuses columns rows b = file_refuses columns rows (header columns rows) b
