-- A list filled with a pattern, place by place.
use Prim.Native.Nat.{ℕ, ◌+◌, ◌≤◌, ◌<◌}
use native.Mathlib.Numerals.{add-one}
use native.Mathlib.Omega.{arith}
use mathlib.Core.Path.{◌≡◌, refl, sym, ap, ◌∙◌}
use mathlib.Core.List.{List}
use lib.ListN.{length, take, set, length-set}
use lib.Seq.{take-suc-set, take_all}
use Rattle.try_calls.specs.Pattern.{pattern}

-- so many places of out₀ are filled
pub record Filled {A : Type 0} (f : ℕ → A) (out₀ out : List A) (i : ℕ) : Type 0 where
  pub within : i ≤ length out
  pub long : length out ≡ length out₀
  pub held : take i out ≡ pattern f i

pub begun : {A : Type 0} (f : ℕ → A) (out₀ : List A) → Filled f out₀ out₀ 0
unfolding pattern
begun f out₀ = record { within = omega arith; long = refl; held = refl }

pub more : {A : Type 0} {f : ℕ → A} {out₀ out : List A} {i : ℕ} → Filled f out₀ out i → i < length out → (x : A) → x ≡ f i → Filled f out₀ (set out i x) (i + 1)
unfolding pattern
more {f = f} {out₀ = out₀} {out = out} {i = i} g h x e = record {
  within = simp length-set (omega arith);
  long = simp length-set g.long;
  held = rw (add-one, take-suc-set out i x, e, g.held) refl;
}

pub whole : {A : Type 0} {f : ℕ → A} {out₀ out : List A} {i : ℕ} → Filled f out₀ out i → length out ≤ i → out ≡ pattern f (length out₀)
whole {f = f} {out₀ = out₀} {out = out} {i = i} g h =
    let e : i ≡ length out₀ = omega (arith, g.within, g.long) in
    sym (take_all i out h) ∙ g.held ∙ ap (pattern f) e
