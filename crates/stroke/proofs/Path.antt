-- A pixel is black for a path exactly when some segment's extent in its row holds its column.
use mathlib.Core.Path.{◌≡◌, refl, ap₂}
use mathlib.Core.Logic.{◌↔◌}
use mathlib.Core.Bool.{true, ◌&&◌}
use mathlib.Core.List.{List}
use lib.IntN.{ℤ}
use lib.Signed.{le_z}
use Rattle.integers.proofs.Tests.{le_iff, and_both, clash}
use Rattle.plane.specs.Point.{Pt}
use Rattle.plane.specs.Polygon.{PenLaws}
use Rattle.stroke.specs.Sweep.{centre, segments}
use Rattle.stroke.specs.Black.{BlackPath}
use Rattle.stroke.specs.Extent.{Span, none, columns, In, extent}
use Rattle.stroke.specs.Runs.{in_span, black_at}
use Rattle.stroke.proofs.Lists.{any_iff}
use Rattle.stroke.proofs.Columns.{extent_iff}

pub in_span_iff : (s : Span) (i : ℤ) → (in_span s i ≡ true) ↔ In s i
in_span_iff none i = ((λ q. clash q refl), λ m. absurd m)
in_span_iff (columns first last) i =
    let l = le_iff first i in
    let r = le_iff i last in
    ((λ q. let b = and_both (le_z first i) (le_z i last) q in (l.0 b.0, r.0 b.1)), λ m. ap₂ ◌&&◌ (l.1 m.0) (r.1 m.1))

pub black_path : (cs : List Pt) (Dx Dy : ℤ) → PenLaws cs Dx Dy → (path : List Pt) (i j : ℤ) → (black_at cs path j i ≡ true) ↔ BlackPath cs path (centre i j)
black_path cs Dx Dy pen path i j =
    let a = any_iff (λ g. in_span (extent cs g j) i) (segments path) in (
      (λ q. let r = a.0 q in record { segment = r.0; on_path = r.1; black = (extent_iff cs Dx Dy pen r.0 i j).0 ((in_span_iff (extent cs r.0 j) i).0 r.2) }),
      λ b. a.1 (b.segment, b.on_path, (in_span_iff (extent cs b.segment j) i).1 ((extent_iff cs Dx Dy pen b.segment i j).1 b.black)),
    )
