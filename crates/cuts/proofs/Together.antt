-- A row by its cuts, for the callers: which columns are black where no segment touches the row, where one does or two, and where the cuts are laid over
-- bytes.
use mathlib.Core.Path.{◌≡◌, refl, sym, ap, ◌∙◌, subst}
use mathlib.Core.Bool.{true, false, ◌&&◌, ◌||◌}
use mathlib.Core.List.{List}
use Prim.Native.Nat.{ℕ, ◌≤◌, ◌<◌}
use native.Mathlib.Omega.{arith}
use borrow.Author.Tests.{le-leb}
use lib.Dec.{leb}
use lib.IntN.{pos}
use lib.ListN.{length, replicate, length-replicate}
use Rattle.integers.proofs.Tests.{and_true}
use Rattle.plane.specs.Point.{Pt}
use Rattle.limits.specs.Sizes.{is_size, Size}
use Rattle.limits.proofs.Sizes.{size_iff}
use Rattle.bits.specs.Bits.{packed_length, packed, bit_at, laid_over}
use Rattle.bits.proofs.Bytes.{packed_ext}
use Rattle.bits.proofs.Blackened.{blackened_packed, blackened_clear}
use Rattle.stroke.specs.Sweep.{segments}
use Rattle.stroke.specs.Runs.{black_at}
use Rattle.cuts.specs.declared.Bounds.{Bounds}
use Rattle.std.specs.Prelude.{Option}
use Rattle.cuts.specs.declared.cut.Cut.{Cut}
use Rattle.cuts.specs.declared.Touch.TheVariants as touch·
use Rattle.cuts.specs.Cuts.{cuts, touch_of, touch_in, bounds_of, unbounded, Laid, laid, Bounded, black_cut}
use Rattle.cuts.proofs.Raster.{Near, cuts_below, black_cut_lem}
use Rattle.cuts.proofs.Touches.{touch_black, WithinTouch, touch_within}
use Rattle.cuts.proofs.Between.{bounded_ext, bounds_hold}
use Rattle.cuts.proofs.Laid.{black_past}

-- ---- by the tests of the code
module _ (cs path : List Pt) (columns j : ℕ) where
  pub touch_none : is_size columns ≡ false → touch·.Untouched ≡ touch_in cs path columns j
  unfolding touch_in
  touch_none e = rw (touch_in, e)

  pub touch_some : is_size columns ≡ true → touch_of (cuts cs path columns j) touch·.Untouched ≡ touch_in cs path columns j
  unfolding touch_in
  touch_some e = rw (touch_in, e)

  pub laid_not : (b : List ℕ) {u : Bounds} → (is_size columns && leb (packed_length columns) (length b)) ≡ false → u ≡ unbounded → record { bytes = b; bounds = u } ≡ laid cs path columns j b
  unfolding laid
  laid_not b e f = rw (laid, e, f)

  pub laid_all : (b : List ℕ) {c : List ℕ} {u : Bounds} → (is_size columns && leb (packed_length columns) (length b)) ≡ true →
      c ≡ laid_over b (packed (black_cut (cuts cs path columns j)) columns) → u ≡ bounds_of (cuts cs path columns j) unbounded → record { bytes = c; bounds = u } ≡ laid cs path columns j b
  unfolding laid
  laid_all b e f g = rw (laid, e, f, g)

-- ---- a raster of a size that is allowed
module _ (cs path : List Pt) (columns j : ℕ) (s : Size columns) where
  row_cuts : List (Option Cut)
  row_cuts = cuts cs path columns j

  touches : touch_in cs path columns j ≡ touch_of row_cuts touch·.Untouched
  unfolding row_cuts
  touches = sym (touch_some cs path columns j ((size_iff columns).1 s))

  -- bytes that are enough for the raster
  fills : (b : List ℕ) → packed_length columns ≤ length b → laid cs path columns j b ≡ record { bytes = laid_over b (packed (black_cut row_cuts) columns); bounds = bounds_of row_cuts unbounded }
  unfolding row_cuts
  fills b h = sym (laid_all cs path columns j b (and_true _ _ ((size_iff columns).1 s) (le-leb (packed_length columns) (length b) h)) refl refl)

  -- ---- which columns are black, of a path within document 01's limits
  module _ (n : Near (segments path) j) where
    by_cuts : (x : ℕ) → x < columns → black_at cs path (pos j) (pos x) ≡ black_cut row_cuts x
    unfolding row_cuts
    by_cuts x h = black_cut_lem cs path columns j x n h

    pub untouched : touch_in cs path columns j ≡ touch·.Untouched → (x : ℕ) → x < columns → black_at cs path (pos j) (pos x) ≡ false
    untouched e x h = by_cuts x h ∙ touch_black row_cuts (sym touches ∙ e) tt x

    pub touched_once : (a : Cut) → touch_in cs path columns j ≡ touch·.One a → (x : ℕ) → x < columns → black_at cs path (pos j) (pos x) ≡ (leb a.left x && leb x a.right)
    touched_once a e x h = by_cuts x h ∙ touch_black row_cuts (sym touches ∙ e) tt x

    pub touched_twice : (a b : Cut) → touch_in cs path columns j ≡ touch·.Two a b → (x : ℕ) → x < columns →
        black_at cs path (pos j) (pos x) ≡ ((leb a.left x && leb x a.right) || (leb b.left x && leb x b.right))
    touched_twice a b e x h = by_cuts x h ∙ touch_black row_cuts (sym touches ∙ e) tt x

    -- laid over bytes, the row is that of the path
    pub laid_row : (b : List ℕ) {c : List ℕ} {u : Bounds} → packed_length columns ≤ length b → record { bytes = c; bounds = u } ≡ laid cs path columns j b →
        c ≡ laid_over b (packed (λ x. black_at cs path (pos j) (pos x)) columns)
    laid_row b h e = ap (λ (t : Laid). t.bytes) (e ∙ fills b h) ∙ ap (laid_over b) (packed_ext (λ x k. sym (by_cuts x k)))

  -- ---- laid over clear bytes
  module _ (n : ℕ) (h : packed_length columns ≤ n) {c : List ℕ} {u : Bounds} (e : record { bytes = c; bounds = u } ≡ laid cs path columns j (replicate n 0)) where
    alone : ◌≡◌ {A = Laid} (record { bytes = c; bounds = u }) (record { bytes = laid_over (replicate n 0) (packed (black_cut row_cuts) columns); bounds = bounds_of row_cuts unbounded })
    alone = e ∙ fills (replicate n 0) (omega (arith, length-replicate {A = ℕ} n 0))

    -- their black columns are those of the cuts
    bits_are : (x : ℕ) → bit_at c x ≡ black_cut row_cuts x
    unfolding row_cuts
    bits_are x =
        ap (λ (t : Laid). bit_at t.bytes x) alone
        ∙ ap (λ (b : List ℕ). bit_at b x) (blackened_packed (black_cut row_cuts) columns (replicate n 0) (black_past row_cuts columns (cuts_below cs path columns j)))
        ∙ blackened_clear (black_cut row_cuts) n x (λ k. black_past row_cuts columns (cuts_below cs path columns j) x (omega arith))

    -- none outside the bounds
    pub laid_bounded : Bounded (bit_at c) u.first u.end × (u.end ≤ columns)
    unfolding row_cuts
    laid_bounded =
        let m = bounds_hold row_cuts columns (cuts_below cs path columns j) in
        subst (λ (t : Laid). Bounded (bit_at c) t.bounds.first t.bounds.end × (t.bounds.end ≤ columns)) (sym alone) (bounded_ext bits_are m.0, m.1)

    pub laid_black : Near (segments path) j → (x : ℕ) → x < columns → bit_at c x ≡ black_at cs path (pos j) (pos x)
    laid_black near x k = bits_are x ∙ sym (by_cuts near x k)

  -- ---- the columns of one cut, and of two, lie within the raster
  within : WithinTouch columns (touch_in cs path columns j)
  unfolding row_cuts
  within = subst (WithinTouch columns) (sym touches) (touch_within columns row_cuts (cuts_below cs path columns j) touch·.Untouched tt)

  pub once_in : (a : Cut) → touch_in cs path columns j ≡ touch·.One a → (a.left ≤ a.right) × (a.right < columns)
  once_in a e = subst (WithinTouch columns) e within

  pub twice_in : (a b : Cut) → touch_in cs path columns j ≡ touch·.Two a b → ((a.left ≤ a.right) × (a.right < columns)) × ((b.left ≤ b.right) × (b.right < columns))
  twice_in a b e = subst (WithinTouch columns) e within
