-- A pen that was built for a setting that is taken: its arrays hold the setting's pen.
use native.Mathlib.Omega.{arith}
use mathlib.Core.Path.{◌≡◌, sym, ap, subst, ◌∙◌}
use mathlib.Core.List.{List}
use borrow.Author.Tests.{le-leb}
use lib.IntN.{pos}
use Rattle.integers.proofs.Tests.{le_iff}
use Rattle.limits.specs.Sizes.{pen_max}
use Rattle.plane.specs.Point.{Pt}
use Rattle.plane.specs.Polygon.{PenLaws}
use Rattle.setting.specs.declared.Setting.{Setting}
use Rattle.setting.specs.Setting.{Taken, Dx, Dy}
use Rattle.setting.proofs.Limits.{taken_iff, box_wide, box_high}
use Rattle.pen.specs.declared.Built.{Built}
use Rattle.pen.specs.Answer.{pen_corners, built}
use Rattle.pen.specs.Polygon.{pen}
use Rattle.pen.proofs.Answers.{pen_built}
use Rattle.pen.proofs.Laid.{corners_back}
use Rattle.pen.proofs.Theorems.{pen_is_pen}
use Rattle.band.specs.Rows.{PenOf}

module _ {σ : Setting} (t : Taken σ) {b : Built} (e : b ≡ built σ) where
  pub built_corners_lem : pen_corners b.pen ≡ pen σ
  built_corners_lem = ap (λ (b : Built). pen_corners b.pen) (e ∙ pen_built σ ((taken_iff σ).1 t)) ∙ corners_back pen_max (pen σ)

  pub built_pen : PenOf b.pen.count b.pen.x b.pen.y
  built_pen = record {
    Dx = pos (Dx σ);
    Dy = pos (Dy σ);
    laws = subst (λ (cs : List Pt). PenLaws cs (pos (Dx σ)) (pos (Dy σ))) (sym built_corners_lem) (pen_is_pen σ t);
    narrow = (le_iff (pos (Dx σ)) (pos 128)).0 (le-leb (Dx σ) 128 (omega (arith, box_wide t)));
    low = (le_iff (pos (Dy σ)) (pos 128)).0 (le-leb (Dy σ) 128 (omega (arith, box_high t)));
  }
