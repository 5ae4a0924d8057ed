-- The runs of a row where no segment touches it, where one does or two, and where several are laid over bytes.
use mathlib.Core.Path.{◌≡◌}
use mathlib.Core.List.{List, [], ◌∷◌}
use Prim.Native.Nat.{ℕ, ◌≤◌}
use lib.IntN.{ℤ}
use lib.ListN.{replicate}
use Rattle.limits.specs.Sizes.{Drawable}
use Rattle.bits.specs.Bits.{packed_length, bit_at}
use Rattle.plane.specs.Point.{Pt}
use Rattle.stroke.specs.Sweep.{path_points}
use Rattle.stroke.specs.Runs.{runs_of, row_runs}
use Rattle.stroke.proofs.Runs.{runs_ext}
use Rattle.cuts.specs.declared.Bounds.{Bounds}
use Rattle.cuts.specs.declared.cut.Cut.{Cut}
use Rattle.cuts.specs.declared.Touch.TheVariants as touch·
use Rattle.cuts.specs.Cuts.{touch_in, laid}
use Rattle.cuts.proofs.Segments.{drawable_near}
use Rattle.cuts.proofs.Together.{untouched, touched_once, once_in, touched_twice, twice_in, laid_black}
use Rattle.row.specs.Together.{together}
use Rattle.row.proofs.OneRun.{runs_one, runs_none}
use Rattle.row.proofs.TwoRuns.{runs_two}

-- ---- the runs of a path that has passed the checks
module _ (cs : List Pt) (p : List ℤ) (columns j : ℕ) (drawable : Drawable p columns j) where
  pub runs_untouched : touch_in cs (path_points p) columns j ≡ touch·.Untouched → row_runs cs (path_points p) columns j ≡ []
  runs_untouched e = runs_none columns _ (untouched cs (path_points p) columns j drawable.size (drawable_near drawable) e)

  pub runs_touched : (c : Cut) → touch_in cs (path_points p) columns j ≡ touch·.One c → row_runs cs (path_points p) columns j ≡ record { left = c.left; right = c.right } ∷ []
  runs_touched c e =
      let i = once_in cs (path_points p) columns j drawable.size c e in
      runs_one c.left c.right columns i.0 i.1 _ (touched_once cs (path_points p) columns j drawable.size (drawable_near drawable) c e)

  pub runs_twice : (c d : Cut) → touch_in cs (path_points p) columns j ≡ touch·.Two c d →
      row_runs cs (path_points p) columns j ≡ together (record { left = c.left; right = c.right }) (record { left = d.left; right = d.right })
  runs_twice c d e =
      let i = twice_in cs (path_points p) columns j drawable.size c d e in
      runs_two (record { left = c.left; right = c.right }) (record { left = d.left; right = d.right }) columns _
      (touched_twice cs (path_points p) columns j drawable.size (drawable_near drawable) c d e) i.0.0 i.0.1 i.1.0 i.1.1

  -- laid over clear bytes
  pub runs_bits : (n : ℕ) → packed_length columns ≤ n → {c : List ℕ} {b : Bounds} → record { bytes = c; bounds = b } ≡ laid cs (path_points p) columns j (replicate n 0) →
      runs_of (bit_at c) columns ≡ row_runs cs (path_points p) columns j
  runs_bits n h e = runs_ext (laid_black cs (path_points p) columns j drawable.size n h e (drawable_near drawable))
