-- Spans by their columns: two spans with the same columns are equal, where neither is empty in disguise; and no extent is.
use mathlib.Core.Path.{◌≡◌, refl, ap₂}
use mathlib.Core.Logic.{◌↔◌, inl, inr}
use mathlib.Core.Bool.{Bool, true, false, cond}
use mathlib.Core.List.{List}
use native.Mathlib.Omega.{arith}
use lib.IntN.{ℤ}
use lib.Signed.{clash_ℤ}
use Rattle.integers.specs.Orders.{◌≼◌, ◌≺◌}
use Rattle.integers.proofs.Ring.{ring, reify}
use Rattle.integers.proofs.Order.{le_refl, le_antisymm, lt_iff}
use Rattle.integers.proofs.Tests.{lez, ltz}
use Rattle.plane.specs.Point.{Pt}
use Rattle.stroke.specs.Sweep.{Seg}
use Rattle.stroke.specs.Sides.{sides}
use Rattle.stroke.specs.Extent.{Span, none, columns, In, Limit, free, at, span_between, reached, narrowed, extent}
use Rattle.outline.specs.Outline.{past}

-- a span that is not none has a column
abbrev pub Proper : Span → Type 0
Proper none = Unit
Proper (columns a b) = a ≼ b

pub same_span : (s t : Span) → Proper s → Proper t → ((i : ℤ) → In s i ↔ In t i) → s ≡ t
same_span none none p q h = refl
same_span none (columns a b) p q h = absurd ((h a).1 (le_refl a, q))
same_span (columns a b) none p q h = absurd ((h a).0 (le_refl a, p))
same_span (columns a b) (columns c d) p q h =
    let f = (h a).0 (le_refl a, p) in
    let k = (h c).1 (le_refl c, q) in
    let l = (h b).0 (p, le_refl b) in
    let m = (h d).1 (q, le_refl d) in
    ap₂ columns (le_antisymm a c k.0 f.0) (le_antisymm b d l.1 m.1)

-- ---- the columns past l, up to r
between_lt : (l i r : ℤ) → l ≺ i → i ≼ r → l ≺ r
between_lt = ring 3 _ (simp reify (omega arith))

pub past_proper : (l r : ℤ) → Proper (past l r)
past_proper l r = elim (ltz l r) [ inl h ↦ rw h.0 ((lt_iff l r).0 h.1) | inr h ↦ rw h.0 tt ]

pub past_iff : (l r i : ℤ) → In (past l r) i ↔ ((l ≺ i) × (i ≼ r))
past_iff l r i = elim (ltz l r) [
  | inl h ↦ rw h.0 ((λ m. ((lt_iff l i).1 m.0, m.1)), λ m. ((lt_iff l i).0 m.0, m.1))
  | inr h ↦ rw h.0 ((λ m. absurd m), λ m. clash_ℤ (between_lt l i r m.0 m.1) h.1)
]

-- ---- an extent
between_proper : (l r : Limit) → Proper (span_between l r)
between_proper free r = tt
between_proper (at l) free = tt
between_proper (at l) (at r) = elim (lez l r) [ inl h ↦ rw h.0 h.1 | inr h ↦ rw h.0 tt ]

if_proper : (t : Bool) (s : Span) → Proper s → Proper (cond t s none)
if_proper true s p = p
if_proper false s p = tt

pub extent_proper : (cs : List Pt) (g : Seg) (j : ℤ) → Proper (extent cs g j)
unfolding extent
extent_proper cs g j = if_proper (reached cs g j) _ (if_proper (narrowed j (sides cs g) _).some _ (between_proper (narrowed j (sides cs g) _).least (narrowed j (sides cs g) _).most))
