-- What the cuts of a row come to where none of them has a column, or one has, or two.
use mathlib.Core.Path.{◌≡◌, refl, sym, ap, ◌∙◌, subst}
use mathlib.Core.Bool.{Bool, false, ◌||◌, or-false, or_assoc}
use mathlib.Core.List.Memᴰ.{head}
use mathlib.Core.List.Memᴰ.{tail}
use mathlib.Core.List.{List, [], ◌∷◌}
use Prim.Native.Nat.{ℕ, suc, ◌≤◌, ◌<◌}
use lib.ListN.{length, get_or, drop}
use lib.Seq.{drop-cons}
use Rattle.integers.specs.Count.{◌∈◌}
use Rattle.std.specs.Prelude.{Option, Some, None}
use Rattle.cuts.specs.declared.cut.Cut.{Cut}
use Rattle.cuts.specs.declared.Touch.{Touch}
use Rattle.cuts.specs.declared.Touch.TheVariants as touch·
use Rattle.cuts.specs.Cuts.{Below, in_cut, black_cut, touched, touch_of}

-- ---- one cut after the other
pub touch_step : (l : List (Option Cut)) (k : ℕ) (t : Touch) → k < length l → touch_of (drop k l) t ≡ touch_of (drop (suc k) l) (touched t (get_or l k None))
unfolding touch_of
touch_step l k t h = rw (drop-cons l k None, touch_of)

pub touch_end : {l : List (Option Cut)} (t : Touch) → l ≡ [] → touch_of l t ≡ t
unfolding touch_of
touch_end t e = rw e

-- several stay several
pub several_stay : (l : List (Option Cut)) → touch_of l touch·.Several ≡ touch·.Several
unfolding touch_of
several_stay [] = refl
several_stay (None ∷ l) = several_stay l
several_stay (Some c ∷ l) = several_stay l

-- ---- which columns are black
-- two cuts at most have columns
abbrev pub FewTouch : Touch → Type 0
FewTouch touch·.Untouched = Unit
FewTouch (touch·.One a) = Unit
FewTouch (touch·.Two a b) = Unit
FewTouch touch·.Several = ⊥

-- the columns of those cuts
abbrev pub black_touch : Touch → ℕ → Bool
black_touch touch·.Untouched x = false
black_touch (touch·.One a) x = in_cut x (Some a)
black_touch (touch·.Two a b) x = in_cut x (Some a) || in_cut x (Some b)
black_touch touch·.Several x = false

-- while there are few, the columns of t and of the cuts after it are those of what they come to
touch_more : (l : List (Option Cut)) (t : Touch) → FewTouch (touch_of l t) → (x : ℕ) → (black_touch t x || black_cut l x) ≡ black_touch (touch_of l t) x
unfolding touch_of
touch_more [] t h x = or-false (black_touch t x)
touch_more (None ∷ l) t h x = touch_more l t h x
touch_more (Some a ∷ l) touch·.Untouched h x = touch_more l (touch·.One a) h x
touch_more (Some b ∷ l) (touch·.One a) h x =
    sym (or_assoc (in_cut x (Some a)) (in_cut x (Some b)) (black_cut l x)) ∙ touch_more l (touch·.Two a b) h x
touch_more (Some c ∷ l) (touch·.Two a b) h x = absurd (subst FewTouch (several_stay l) h)
touch_more (Some c ∷ l) touch·.Several h x = absurd (subst FewTouch (several_stay l) h)

-- so where all cuts come to few, the columns of those are the black ones
pub touch_black : (l : List (Option Cut)) {u : Touch} → touch_of l touch·.Untouched ≡ u → FewTouch u → (x : ℕ) → black_cut l x ≡ black_touch u x
touch_black l e h x = touch_more l touch·.Untouched (subst FewTouch (sym e) h) x ∙ ap (λ (t : Touch). black_touch t x) e

-- ---- within a raster of n columns
abbrev pub WithinTouch : ℕ → Touch → Type 0
WithinTouch n touch·.Untouched = Unit
WithinTouch n (touch·.One a) = (a.left ≤ a.right) × (a.right < n)
WithinTouch n (touch·.Two a b) = ((a.left ≤ a.right) × (a.right < n)) × ((b.left ≤ b.right) × (b.right < n))
WithinTouch n touch·.Several = Unit

-- cuts within the raster come to columns within it
pub touch_within : (n : ℕ) (l : List (Option Cut)) → ((c : Option Cut) → c ∈ l → Below n c) → (t : Touch) → WithinTouch n t → WithinTouch n (touch_of l t)
unfolding touch_of
touch_within n [] b t w = w
touch_within n (None ∷ l) b t w = touch_within n l (λ c m. b c (tail m)) t w
touch_within n (Some p ∷ l) b touch·.Untouched w = touch_within n l (λ c m. b c (tail m)) (touch·.One p) (b (Some p) (head refl) p refl)
touch_within n (Some p ∷ l) b (touch·.One x) w = touch_within n l (λ c m. b c (tail m)) (touch·.Two x p) (w, b (Some p) (head refl) p refl)
touch_within n (Some p ∷ l) b (touch·.Two x y) w = touch_within n l (λ c m. b c (tail m)) touch·.Several tt
touch_within n (Some p ∷ l) b touch·.Several w = touch_within n l (λ c m. b c (tail m)) touch·.Several tt
