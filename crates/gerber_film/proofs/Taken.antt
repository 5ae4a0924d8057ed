-- FileTaken: what the reader gives passes a row call's checks (gerber_file, Passing), and those are the drawing's.
use Prim.Native.Nat.{ℕ, zero, suc, ◌+◌, ◌<◌}
use native.Mathlib.Omega.{arith}
use mathlib.Core.Path.{◌≡◌, sym, ap, ap₂, ◌∙◌}
use mathlib.Core.Bool.{true}
use mathlib.Core.List.{List, [], ◌∷◌}
use borrow.Author.Tests.{lt-ltb}
use lib.ListN.{length, get_or}
use lib.IntN.{ℤ, pos}
use Rattle.integers.proofs.Tests.{and_true}
use Rattle.limits.specs.Refusal.{raster, row}
use Rattle.limits.specs.Sizes.{raster_max, is_size}
use Rattle.limits.specs.declared.Verdict.TheVariants.{Passed}
use Rattle.limits.proofs.Sizes.{within_iff}
use Rattle.limits.proofs.Verdicts as verdicts·
use Rattle.checks.specs.Checks.{raster_verdict, row_verdict}
use Rattle.aperture.specs.declared.Table.{Table}
use Rattle.aperture.specs.Table.{is_held, looked, looked_verdict}
use Rattle.drawing.specs.declared.StrokeVerdict.TheVariants.{AllTaken}
use Rattle.setting_list.specs.Settings.{table_of}
use Rattle.drawing.specs.Strokes.{Drawing, table_in, row_zero_verdict, stroke_verdict, first_from, strokes_verdict}
use Rattle.drawing.proofs.Drawable.{both}
use Rattle.drawing.proofs.Taken.{no_stroke_lem, stroke_taken}
use Rattle.language.specs.Grammar.{said}
use Rattle.language.proofs.Theorems.{each_file}
use Rattle.gerber_file.specs.Strokes.{Drawn, flat}
use Rattle.gerber_file.specs.Theorems.{All}
use Rattle.gerber_file.proofs.Passing.{opened, PassesDrawn, drawn_pass}
use Rattle.gerber_film.specs.File.{drawing_of_file, no_stroke}
use Rattle.gerber_film.specs.Theorems.{SameStrokes, Size, Taken, FileTaken}
use Rattle.gerber_film.proofs.Whole.{file_strokes}

-- what holds of all strokes holds of stroke k
at_index : {P : Drawn → Type 0} (ds : List Drawn) → All P ds → (k : ℕ) → k < length ds → P (get_or ds k no_stroke)
at_index [] a k h = absurd (omega (arith, h))
at_index (d ∷ ds) a zero h = (opened a).0
at_index (d ∷ ds) a (suc k) h = at_index ds (opened a).1 k (omega (arith, h))

-- ---- the raster
is_size_lem : (n : ℕ) → Size n → is_size n ≡ true
is_size_lem n h = (within_iff n 1 raster_max).1 (h.least, h.most)

raster_passes : (columns rows : ℕ) → Size columns → Size rows → raster_verdict columns rows ≡ Passed
raster_passes columns rows h k = sym (verdicts·.passed raster (and_true (is_size columns) (is_size rows) (is_size_lem columns h) (is_size_lem rows k)))

-- "row 0, which every raster has"
row_passes : (rows : ℕ) → Size rows → row_verdict rows 0 ≡ Passed
row_passes rows k = sym (verdicts·.passed row (lt-ltb 0 rows (omega (arith, k.least))))

-- ---- a stroke
held_passes : (t : Table) (n : ℕ) → is_held t n ≡ true → looked_verdict (looked t n) ≡ Passed
unfolding looked
held_passes t n e = rw (looked, e)

module _ (columns rows : ℕ) (h : Size columns) (k : Size rows) where
  drawn_passes : (t : Table) (d : Drawn) → PassesDrawn t d → row_zero_verdict t d.aperture (flat d.points) columns rows ≡ Passed
  drawn_passes t d g =
      both (held_passes t d.aperture g.held) (both g.path (both (raster_passes columns rows h k) (both (row_passes rows k) g.coordinates)))

  -- ---- all strokes
  taken_from : (d : Drawing) (n m : ℕ) → ((i : ℕ) → i < m + n → stroke_verdict d columns rows i ≡ Passed) → first_from d columns rows m n ≡ AllTaken
  taken_from d zero m f = sym (no_stroke_lem d columns rows m)
  taken_from d (suc n) m f = stroke_taken d columns rows m n (f m (omega arith)) ∙ taken_from d n (suc m) (λ i j. f i (omega (arith, j)))

  same_taken : (d : Drawing) (ds : List Drawn) → SameStrokes d ds → All (PassesDrawn (table_in d)) ds → Taken d columns rows
  same_taken d ds same pass = record {
    strokes = all;
    film = λ e. both e (both (ap strokes_verdict all) (raster_passes columns rows h k));
  }
    where
      one : (i : ℕ) → i < length ds → stroke_verdict d columns rows i ≡ Passed
      one i j = ap₂ (λ (n : ℕ) (p : List ℤ). row_zero_verdict (table_in d) n p columns rows) (same.aperture i j) (same.path i j) ∙
          drawn_passes (table_in d) (get_or ds i no_stroke) (at_index ds pass i j)

      all : first_from d columns rows 0 (length d.apertures) ≡ AllTaken
      all = taken_from d (length d.apertures) 0 (λ i j. one i (omega (arith, j, same.count)))

pub file_taken : FileTaken
file_taken unit settings l p a s asked e columns rows h k =
    let r = each_file l in
    same_taken columns rows h k (drawing_of_file unit settings l p a s) _ (file_strokes unit settings l p a s asked e r.0 r.1.0 r.1.1)
    (drawn_pass unit (length p) (table_of settings).table (said (pos 0) (pos 0) r.0) r.1.0)
