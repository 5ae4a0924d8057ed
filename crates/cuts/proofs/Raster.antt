-- An extent cut to the raster: it keeps the columns of the raster, and lies within it. So the cuts of a path's segments blacken the raster's columns as
-- the segments do, where these are within document 01's limits.
use mathlib.Core.Path.{◌≡◌, refl, sym, ap, ap₂, ◌∙◌, subst}
use mathlib.Core.Bool.{Bool, true, false, cond, ◌&&◌, ◌||◌}
use mathlib.Core.Logic.{inl, inr}
use mathlib.Core.List.Memᴰ.{cases_cons as cases}
use mathlib.Core.List.Memᴰ.{head}
use mathlib.Core.List.Memᴰ.{not-nil}
use mathlib.Core.List.Memᴰ.{tail}
use mathlib.Core.List.{List, [], ◌∷◌, map}
use Prim.Native.Nat.{ℕ, zero, suc, ◌≤◌, ◌<◌}
use native.Mathlib.Omega.{arith}
use borrow.Author.Tests.{leb-true, le-leb}
use lib.Dec.{leb}
use lib.ListN.{length, get_or, length-map}
use lib.IntN.{ℤ, pos, negsuc, nat_abs, ◌-ℤ◌, -ℤ_one}
use lib.Signed.{le_z}
use Rattle.integers.specs.Orders.{◌≼◌}
use Rattle.integers.specs.Compare.{min_z, max_z}
use Rattle.integers.specs.Count.{◌∈◌}
use Rattle.integers.proofs.Order.{le_trans}
use Rattle.integers.proofs.Tests.{clash, and_false, and_both, le_true, le_iff, max_l, max_r, max_le, min_l, min_r, le_min, same_test}
use Rattle.plane.specs.Point.{Pt}
use Rattle.stroke.specs.Sweep.{Seg, segments}
use Rattle.stroke.specs.Extent.{Span, none, columns as from-to, extent}
use Rattle.extent.specs.Answer.{allowed, answered, extent_of}
use Rattle.extent.specs.declared.Extent.{Extent}
use Rattle.stroke.specs.Runs.{in_span, any, black_at}
use Rattle.std.specs.Prelude.{Option, Some, None}
use Rattle.cuts.specs.declared.cut.Cut.{Cut}
use Rattle.cuts.specs.Cuts.{cut_from, cut_to, extent_in, cuts, Below, in_cut, black_cut}

-- ---- the raster's last column
last_column : (n : ℕ) → pos (suc n) -ℤ pos 1 ≡ pos n
last_column n = -ℤ_one (pos (suc n))

-- ---- one span
-- where a is at least 0, the test of the columns from a to b is that of their cut
cond_cut : (a b : ℤ) (x : ℕ) → pos 0 ≼ a → (le_z a (pos x) && le_z (pos x) b) ≡ in_cut x (cond (le_z a b) (cut_from (nat_abs a) (nat_abs b)) None)
cond_cut (negsuc m) b x h = absurd h.le
cond_cut (pos m) (negsuc n) x h = and_false (leb m x) false refl
cond_cut (pos m) (pos n) x h = go (leb m n) refl
  where
    go : (t : Bool) → leb m n ≡ t → (leb m x && leb x n) ≡ in_cut x (cond t (cut_from m n) None)
    go true e = refl
    go false e = same_test _ _ (λ q. let b = and_both (leb m x) (leb x n) q in absurd (clash (le-leb m n (omega (arith, leb-true m x b.0, leb-true x n b.1))) e)) (λ q. absurd (clash q refl))

-- a column of the raster is at or after the left limit of the cut when it is at or after that of the span, and so on the right
left_limit : (first : ℤ) (x : ℕ) → le_z first (pos x) ≡ le_z (max_z first (pos 0)) (pos x)
left_limit first x =
    same_test _ _ (λ q. (le_iff _ _).1 (max_le first (pos 0) (pos x) (le_true q) ((le_iff (pos 0) (pos x)).0 (le-leb 0 x (omega arith)))))
    (λ q. (le_iff _ _).1 (le_trans first (max_z first (pos 0)) (pos x) (max_l first (pos 0)) (le_true q)))

right_limit : (last : ℤ) (e : ℤ) (x : ℕ) → pos x ≼ e → le_z (pos x) last ≡ le_z (pos x) (min_z last e)
right_limit last e x h =
    same_test _ _ (λ q. (le_iff _ _).1 (le_min last e (pos x) (le_true q) h))
    (λ q. (le_iff _ _).1 (le_trans (pos x) (min_z last e) last (le_true q) (min_l last e)))

below_last : (x columns : ℕ) → x < columns → pos x ≼ pos columns -ℤ pos 1
below_last x zero h = absurd (omega arith)
below_last x (suc n) h = rw last_column ((le_iff (pos x) (pos n)).0 (le-leb x n (omega arith)))

-- the columns of the raster that a span has are those that its cut has
pub in_cut_lem : (s : Span) (x columns : ℕ) → x < columns → in_span s (pos x) ≡ in_cut x (cut_to columns (answered s))
in_cut_lem none x columns h = refl
in_cut_lem (from-to first last) x columns h =
    ap₂ ◌&&◌ (left_limit first x) (right_limit last (pos columns -ℤ pos 1) x (below_last x columns h))
    ∙ cond_cut (max_z first (pos 0)) (min_z last (pos columns -ℤ pos 1)) x (max_r first (pos 0))

-- ---- within the raster
-- `Below columns`, by cases
abbrev InRaster : ℕ → Option Cut → Type 0
InRaster columns None = Unit
InRaster columns (Some c) = (c.left ≤ c.right) × (c.right < columns)

ordered : (columns : ℕ) (a b : ℤ) → pos 0 ≼ a → a ≼ b → b ≼ pos columns -ℤ pos 1 → (nat_abs a ≤ nat_abs b) × (nat_abs b < columns)
ordered columns (negsuc m) b h k l = absurd h.le
ordered columns (pos m) (negsuc n) h k l = absurd k.le
ordered zero (pos m) (pos n) h k l = absurd l.le
ordered (suc w) (pos m) (pos n) h k l = (leb-true m n ((le_iff (pos m) (pos n)).1 k), omega (arith, leb-true n w ((le_iff (pos n) (pos w)).1 (rw last_column at l))))

cut_in : (columns : ℕ) (s : Option Extent) → InRaster columns (cut_to columns s)
cut_in columns None = tt
cut_in columns (Some s) = go (le_z a b) refl
  where
    a : ℤ
    a = max_z s.first (pos 0)

    b : ℤ
    b = min_z s.last (pos columns -ℤ pos 1)

    go : (t : Bool) → le_z a b ≡ t → InRaster columns (cond t (cut_from (nat_abs a) (nat_abs b)) None)
    go true e = ordered columns a b (max_r s.first (pos 0)) (le_true e) (min_r s.last (pos columns -ℤ pos 1))
    go false e = tt

pub cut_below : {columns : ℕ} (s : Option Extent) {c : Option Cut} → c ≡ cut_to columns s → Below columns c
cut_below {columns} s e d f = subst (InRaster columns) (sym e ∙ f) (cut_in columns s)

pub below_more : {n m : ℕ} {c : Option Cut} → n ≤ m → Below n c → Below m c
below_more h b d e = let p = b d e in (p.0, omega arith)

-- ---- all cuts of a path
all_below : (columns : ℕ) (f : Seg → Option Extent) (l : List Seg) (c : Option Cut) → c ∈ map (λ g. cut_to columns (f g)) l → Below columns c
all_below columns f [] c m = absurd (not-nil m)
all_below columns f (g ∷ l) c m = elim (cases m) [ inl e ↦ cut_below (f g) e | inr i ↦ all_below columns f l c i ]

pub cuts_below : (cs path : List Pt) (columns j : ℕ) (c : Option Cut) → c ∈ cuts cs path columns j → Below columns c
cuts_below cs path columns j = all_below columns (extent_in cs j) (segments path)

pub cuts_long : (cs path : List Pt) (columns j : ℕ) → length (cuts cs path columns j) ≡ length (segments path)
cuts_long cs path columns j = length-map (segments path) (λ g. cut_to columns (extent_in cs j g))

-- the cut of segment k
map_at : {A B : Type 0} (f : A → B) (l : List A) (k : ℕ) (d : A) (e : B) → k < length l → get_or (map f l) k e ≡ f (get_or l k d)
map_at f [] k d e h = absurd (omega arith)
map_at f (a ∷ l) zero d e h = refl
map_at f (a ∷ l) (suc k) d e h = map_at f l k d e (omega arith)

pub cut_place : (cs path : List Pt) (columns j k : ℕ) (g : Seg) → k < length (segments path) →
    get_or (cuts cs path columns j) k None ≡ cut_to columns (extent_in cs j (get_or (segments path) k g))
cut_place cs path columns j k g h = map_at (λ g. cut_to columns (extent_in cs j g)) (segments path) k g None h

-- ---- segments within document 01's limits
abbrev pub Near : List Seg → ℕ → Type 0
Near l j = (g : Seg) → g ∈ l → allowed g.from.x g.from.y g.to.x g.to.y j ≡ true

-- what the code answers for such a segment is its extent
pub near_extent : (cs : List Pt) (g : Seg) (j : ℕ) → allowed g.from.x g.from.y g.to.x g.to.y j ≡ true → answered (extent cs g (pos j)) ≡ extent_in cs j g
unfolding extent_of
near_extent cs g j e = rw (extent_of, e)

any_cut : (cs : List Pt) (x columns j : ℕ) → x < columns → (l : List Seg) → Near l j →
    any (λ g. in_span (extent cs g (pos j)) (pos x)) l ≡ any (in_cut x) (map (λ g. cut_to columns (extent_in cs j g)) l)
any_cut cs x columns j h [] n = refl
any_cut cs x columns j h (g ∷ l) n =
    ap₂ ◌||◌ (in_cut_lem (extent cs g (pos j)) x columns h ∙ ap (λ (e : Option Extent). in_cut x (cut_to columns e)) (near_extent cs g j (n g (head refl))))
    (any_cut cs x columns j h l (λ k m. n k (tail m)))

-- a column of the raster is black by the extents when it is black by their cuts
pub black_cut_lem : (cs path : List Pt) (columns j x : ℕ) → Near (segments path) j → x < columns → black_at cs path (pos j) (pos x) ≡ black_cut (cuts cs path columns j) x
black_cut_lem cs path columns j x n h = any_cut cs x columns j h (segments path) n
