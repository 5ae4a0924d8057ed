-- The loops over a path's segments: what holds when the first k of n are done.
use mathlib.Core.Path.{◌≡◌, sym, ap, ◌∙◌}
use mathlib.Core.List.{List}
use Prim.Native.Nat.{ℕ, suc, ◌≤◌}
use native.Mathlib.Omega.{arith}
use lib.ListN.{length, get_or, take, drop, drop_of_length-le}
use lib.Seq.{take_all}
use Rattle.bits.specs.Bits.{blackened}
use Rattle.std.specs.Prelude.{Option, Some, None}
use Rattle.cuts.specs.declared.cut.Cut.{Cut}
use Rattle.cuts.specs.declared.Touch.{Touch}
use Rattle.cuts.specs.declared.Touch.TheVariants as touch·
use Rattle.cuts.specs.declared.Bounds.{Bounds}
use Rattle.cuts.specs.Cuts.{in_cut, black_cut, touched, touch_of, wider, bounds_of, unbounded}
use Rattle.cuts.proofs.Between.{bounds_step, bounds_end}
use Rattle.cuts.proofs.Laid.{laid_next}
use Rattle.cuts.proofs.Touches.{several_stay, touch_step, touch_end}

-- ---- the search: the cuts after the first k make of t what all cuts make of a row untouched
pub record Searched (cs : List (Option Cut)) (n : ℕ) (t : Touch) (k : ℕ) : Type 0 where
  pub within : k ≤ n
  pub all : n ≡ length cs
  pub same : touch_of (drop k cs) t ≡ touch_of cs touch·.Untouched

-- one cut more
pub searched_step : {cs : List (Option Cut)} {n : ℕ} {t t' : Touch} {k : ℕ} → Searched cs n t k → suc k ≤ n → t' ≡ touched t (get_or cs k None) → Searched cs n t' (suc k)
searched_step {cs} {t = t} {k = k} d h e = record {
  within = h;
  all = d.all;
  same = ap (touch_of (drop (suc k) cs)) e ∙ sym (touch_step cs k t (omega arith)) ∙ d.same;
}

-- after the last none is left
pub searched_end : {cs : List (Option Cut)} {n : ℕ} {t : Touch} {k : ℕ} → Searched cs n t k → n ≤ k → t ≡ touch_of cs touch·.Untouched
searched_end {cs} {t = t} {k = k} d h = sym (touch_end t (drop_of_length-le cs {i = k} (omega arith))) ∙ d.same

-- several stay several, whatever comes after them
pub several_end : {cs : List (Option Cut)} {n k : ℕ} {t : Touch} → Searched cs n t k → t ≡ touch·.Several → touch·.Several ≡ touch_of cs touch·.Untouched
several_end {cs} {k = k} d e = sym (several_stay (drop k cs)) ∙ ap (touch_of (drop k cs)) (sym e) ∙ d.same

-- ---- the laying: the first k cuts are laid over the bytes, and the cuts after them make of the bounds what all cuts make of none
pub record Overlaid (cs : List (Option Cut)) (n : ℕ) (bytes₀ bytes : List ℕ) (b : Bounds) (k : ℕ) : Type 0 where
  pub within : k ≤ n
  pub all : n ≡ length cs
  pub as_long : length bytes ≡ length bytes₀
  pub laid : bytes ≡ blackened (black_cut (take k cs)) bytes₀
  pub bounded : bounds_of (drop k cs) b ≡ bounds_of cs unbounded

-- one cut more
pub overlaid_step : {cs : List (Option Cut)} {n : ℕ} {bytes₀ bytes bytes' : List ℕ} {b b' : Bounds} {k : ℕ} → Overlaid cs n bytes₀ bytes b k → suc k ≤ n →
    length bytes' ≡ length bytes → bytes' ≡ blackened (λ x. in_cut x (get_or cs k None)) bytes → b' ≡ wider b (get_or cs k None) →
    Overlaid cs n bytes₀ bytes' b' (suc k)
overlaid_step {cs} {bytes₀ = bytes₀} {b = b} {k = k} d h l e f = record {
  within = h;
  all = d.all;
  as_long = l ∙ d.as_long;
  laid = e ∙ laid_next cs k bytes₀ (omega arith) d.laid;
  bounded = ap (bounds_of (drop (suc k) cs)) f ∙ sym (bounds_step cs k b (omega arith)) ∙ d.bounded;
}

-- after the last none is left
pub overlaid_end : {cs : List (Option Cut)} {n : ℕ} {bytes₀ bytes : List ℕ} {b : Bounds} {k : ℕ} → Overlaid cs n bytes₀ bytes b k → n ≤ k →
    (bytes ≡ blackened (black_cut cs) bytes₀) × (b ≡ bounds_of cs unbounded)
overlaid_end {cs} {bytes₀ = bytes₀} {b = b} {k = k} d h = (
  d.laid ∙ ap (λ (l : List (Option Cut)). blackened (black_cut l) bytes₀) (take_all k cs (omega arith)),
  sym (bounds_end b (drop_of_length-le cs {i = k} (omega arith))) ∙ d.bounded,
)
