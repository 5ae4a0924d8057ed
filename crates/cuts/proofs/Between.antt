-- The bounds of the cuts: each cut more keeps them, and no column outside them is black.
use mathlib.Core.Path.{◌≡◌, refl, sym, ◌∙◌}
use mathlib.Core.Bool.{Bool, true, false, cond, ◌||◌, or-false, or_assoc}
use mathlib.Core.List.Memᴰ.{head}
use mathlib.Core.List.Memᴰ.{tail}
use mathlib.Core.List.{List, [], ◌∷◌}
use Prim.Native.Nat.{ℕ, suc, ◌+◌, min, max, ◌≤◌, ◌<◌}
use native.Mathlib.Numerals.{add-one}
use native.Mathlib.Omega.{arith}
use borrow.Author.Tests.{ltb-false, lt-ltb, le-ltb, lt-leb}
use lib.Dec.{leb, ltb}
use lib.ListN.{length, get_or, drop}
use lib.Seq.{drop-cons}
use Rattle.integers.specs.Count.{◌∈◌}
use Rattle.integers.proofs.Tests.{and_false, false_and}
use Rattle.cuts.specs.Cuts.{Below, cut_from, in_cut, black_cut, wider, bounds_of, unbounded, Bounded}
use Rattle.std.specs.Prelude.{Option, Some, None}
use Rattle.cuts.specs.declared.cut.Cut.{Cut}
use Rattle.cuts.specs.declared.Bounds.{Bounds}

-- ---- columns and bounds
-- the same columns have the same bounds
pub bounded_ext : {f g : ℕ → Bool} {first end : ℕ} → ((x : ℕ) → g x ≡ f x) → Bounded f first end → Bounded g first end
bounded_ext e b = record { ordered = b.ordered; clear_before = λ x h. e x ∙ b.clear_before x h; clear_past = λ x h. e x ∙ b.clear_past x h }

-- no column of a cut lies before its first, or past its last
cut_before : (l r x : ℕ) → x < l → in_cut x (cut_from l r) ≡ false
cut_before l r x h = sym (false_and (leb l x) (leb x r) (lt-leb l x h))

pub cut_past : (l r x : ℕ) → r < x → in_cut x (cut_from l r) ≡ false
cut_past l r x h = and_false (leb l x) (leb x r) (lt-leb x r h)

neither : {a b : Bool} → a ≡ false → b ≡ false → (a || b) ≡ false
neither e f = rw (e, f)

-- one cut more, from l to r: it goes into bounds that begin at l or before and end past r
bounded_more : (f : ℕ → Bool) (l r first end : ℕ) → first ≤ end → first ≤ l → r < end → ((x : ℕ) → x < first → f x ≡ false) → ((x : ℕ) → end ≤ x → f x ≡ false) →
    Bounded (λ x. f x || in_cut x (cut_from l r)) first end
bounded_more f l r first end o p q before past = record {
  ordered = o;
  clear_before = λ x h. neither (before x h) (cut_before l r x (omega arith));
  clear_past = λ x h. neither (past x h) (cut_past l r x (omega arith));
}

-- ---- cut by cut, where all lie in the raster
module _ (f : ℕ → Bool) (b : Bounds) (columns : ℕ) (h : Bounded f b.first b.end) (k : b.end ≤ columns) where
  bounded_wider : (c : Option Cut) → Below columns c → Bounded (λ x. f x || in_cut x c) (wider b c).first (wider b c).end × ((wider b c).end ≤ columns)
  bounded_wider None w = (bounded_ext (λ x. or-false (f x)) h, k)
  bounded_wider (Some c) w = go (ltb 0 b.end) refl
    where
      go : (t : Bool) → ltb 0 b.end ≡ t →
          let m : Bounds = cond t (record { first = min b.first c.left; end = max b.end (suc c.right) }) (record { first = c.left; end = suc c.right }) in
          Bounded (λ x. f x || in_cut x (Some c)) m.first m.end × (m.end ≤ columns)
      go true e =
          let i = w c refl in
          let m = bounded_more f c.left c.right (min b.first c.left) (max b.end (suc c.right)) (omega arith) (omega arith) (omega arith) in
          (m (λ x q. h.clear_before x (omega arith)) (λ x q. h.clear_past x (omega arith)), omega arith)
      go false e =
          let z = ltb-false 0 b.end e in
          let i = w c refl in
          (bounded_more f c.left c.right c.left (suc c.right) (omega arith) (omega arith) (omega arith) (λ x q. h.clear_past x (omega arith)) (λ x q. h.clear_past x (omega arith)), omega arith)

-- all cuts of a list
bounded_all : (cs : List (Option Cut)) (f : ℕ → Bool) (b : Bounds) (columns : ℕ) → Bounded f b.first b.end → b.end ≤ columns → ((c : Option Cut) → c ∈ cs → Below columns c) →
    Bounded (λ x. f x || black_cut cs x) (bounds_of cs b).first (bounds_of cs b).end × ((bounds_of cs b).end ≤ columns)
unfolding bounds_of
bounded_all [] f b columns h k i = (bounded_ext (λ x. or-false (f x)) h, k)
bounded_all (c ∷ cs) f b columns h k i =
    let m = bounded_wider f b columns h k c (i c (head refl)) in
    let n = bounded_all cs (λ x. f x || in_cut x c) (wider b c) columns m.0 m.1 (λ c q. i c (tail q)) in
    (bounded_ext (λ x. sym (or_assoc (f x) (in_cut x c) (black_cut cs x))) n.0, n.1)

-- and none before it
pub bounds_hold : (cs : List (Option Cut)) (columns : ℕ) → ((c : Option Cut) → c ∈ cs → Below columns c) →
    Bounded (black_cut cs) (bounds_of cs unbounded).first (bounds_of cs unbounded).end × ((bounds_of cs unbounded).end ≤ columns)
bounds_hold cs columns = bounded_all cs (λ _. false) unbounded columns (record { ordered = omega arith; clear_before = λ x h. refl; clear_past = λ x h. refl }) (omega arith)

-- ---- one cut after the other, for a loop
pub bounds_step : (l : List (Option Cut)) (k : ℕ) (b : Bounds) → k < length l → bounds_of (drop k l) b ≡ bounds_of (drop (suc k) l) (wider b (get_or l k None))
unfolding bounds_of
bounds_step l k b h = rw (drop-cons l k None, bounds_of)

pub bounds_end : {l : List (Option Cut)} (b : Bounds) → l ≡ [] → bounds_of l b ≡ b
unfolding bounds_of
bounds_end b e = rw e

-- ---- how they are widened
pub wider_some : (b : Bounds) (l r : ℕ) {first end : ℕ} → 0 < b.end → first ≡ min b.first l → end ≡ max b.end (r + 1) →
    ◌≡◌ {A = Bounds} (record { first = first; end = end }) (wider b (cut_from l r))
wider_some b l r h e f = rw (lt-ltb 0 b.end h, e, f, add-one r)

pub wider_new : (b : Bounds) (l r : ℕ) → b.end ≤ 0 → ◌≡◌ {A = Bounds} (record { first = l; end = r + 1 }) (wider b (cut_from l r))
wider_new b l r h = rw (le-ltb 0 b.end h, add-one r)
