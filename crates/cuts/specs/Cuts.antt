-- How the code goes about a row: each segment's extent is cut to the raster, and laid over the bytes of a packed row. `black_cut_lem` and `laid_row`
-- (proofs/Raster, Together) say that it comes to the same as `black_at`.
use Rattle.std.specs.Prelude.{ℕ, suc, ◌≤◌, ◌<◌, min, max, ◌≡◌, Bool, true, false, cond, ◌&&◌, Option, Some, None, List, [], ◌∷◌, map, leb, ltb, length, ℤ, pos, nat_abs, ◌-ℤ◌}
use Rattle.std.specs.Int.Signed.{le_z}
use Rattle.integers.specs.Compare.{min_z, max_z}
use Rattle.plane.specs.Point.{Pt, corners}
use Rattle.limits.specs.Sizes.{is_size}
use Rattle.bits.specs.Bits.{packed_length, packed, laid_over}
use Rattle.stroke.specs.Sweep.{Seg, segments, path_points}
use Rattle.extent.specs.declared.Extent.{Extent}
use Rattle.extent.specs.Answer.{extent_of}
use Rattle.stroke.specs.Runs.{any}
use Rattle.cuts.specs.declared.cut.Cut.{Cut}
use Rattle.cuts.specs.declared.Touch.{Touch}
use Rattle.cuts.specs.declared.Touch.TheVariants as touch·
use Rattle.cuts.specs.declared.Bounds.{Bounds}

-- the columns from the left one to the right one
abbrev pub cut_from : ℕ → ℕ → Option Cut
cut_from left right = Some (record { left = left; right = right })

-- an extent within the raster, which has the columns 0 .. columns - 1
abbrev pub cut_to : ℕ → Option Extent → Option Cut
cut_to columns None = None
cut_to columns (Some e) =
    cond (le_z (max_z e.first (pos 0)) (min_z e.last (pos columns -ℤ pos 1))) (cut_from (nat_abs (max_z e.first (pos 0))) (nat_abs (min_z e.last (pos columns -ℤ pos 1)))) None

-- the extent of a segment, as the code answers it
abbrev pub extent_in : List Pt → ℕ → Seg → Option Extent
extent_in cs j g = extent_of cs g.from.x g.from.y g.to.x g.to.y j

-- the cuts of a path's segments in row j
abbrev pub cuts : List Pt → List Pt → ℕ → ℕ → List (Option Cut)
cuts cs path columns j = map (λ g. cut_to columns (extent_in cs j g)) (segments path)

-- the same of the lists that the code holds: the corners are the first `count` of xs and ys, and the path is a list of entries
abbrev pub cuts_of : List ℤ → List ℤ → ℕ → List ℤ → ℕ → ℕ → List (Option Cut)
cuts_of xs ys count path columns j = cuts (corners count xs ys) (path_points path) columns j

-- the columns of a cut, where it has any, are in order, and lie below n
abbrev pub Below : ℕ → Option Cut → Type 0
Below n cut = (c : Cut) → cut ≡ Some c → (c.left ≤ c.right) × (c.right < n)

abbrev pub in_cut : ℕ → Option Cut → Bool
in_cut x None = false
in_cut x (Some c) = leb c.left x && leb x c.right

-- column x is black by the cuts
abbrev pub black_cut : List (Option Cut) → ℕ → Bool
black_cut cs x = any (in_cut x) cs

-- what the cuts so far and one more make
abbrev pub touched : Touch → Option Cut → Touch
touched t None = t
touched touch·.Untouched (Some c) = touch·.One c
touched (touch·.One a) (Some c) = touch·.Two a c
touched (touch·.Two a b) (Some c) = touch·.Several
touched touch·.Several (Some c) = touch·.Several

unfoldable pub touch_of : List (Option Cut) → Touch → Touch
touch_of [] t = t
touch_of (c ∷ cs) t = touch_of cs (touched t c)

-- how many segments touch row j: none in a raster of no size that is allowed
unfoldable pub touch_in : List Pt → List Pt → ℕ → ℕ → Touch
touch_in cs path columns j = elim (is_size columns) [ true ↦ touch_of (cuts cs path columns j) touch·.Untouched | false ↦ touch·.Untouched ]

-- the bounds of the cuts so far and one more; an end of 0 says that there is none so far
abbrev pub wider : Bounds → Option Cut → Bounds
wider b None = b
wider b (Some c) = cond (ltb 0 b.end) (record { first = min b.first c.left; end = max b.end (suc c.right) }) (record { first = c.left; end = suc c.right })

unfoldable pub bounds_of : List (Option Cut) → Bounds → Bounds
bounds_of [] b = b
bounds_of (c ∷ cs) b = bounds_of cs (wider b c)

-- no cut so far
abbrev pub unbounded : Bounds
unbounded = record { first = 0; end = 0 }

-- bytes with cuts laid over them, and the bounds of the cuts
pub record Laid : Type 0 where
  pub bytes : List ℕ
  pub bounds : Bounds

-- the packed row of the cuts of a path's segments in row j, laid over bytes, so that each bit is the old one or black; nothing where they are too few for
-- the raster
unfoldable pub laid : List Pt → List Pt → ℕ → ℕ → List ℕ → Laid
laid cs path columns j b = elim (is_size columns && leb (packed_length columns) (length b)) [
  | true ↦ record { bytes = laid_over b (packed (black_cut (cuts cs path columns j)) columns); bounds = bounds_of (cuts cs path columns j) unbounded }
  | false ↦ record { bytes = b; bounds = unbounded }
]

-- no column before `first` is black, and none from `end` on
pub record Bounded (black : ℕ → Bool) (first end : ℕ) : Type 0 where
  pub ordered : first ≤ end
  pub clear_before : (x : ℕ) → x < first → black x ≡ false
  pub clear_past : (x : ℕ) → end ≤ x → black x ≡ false
