-- The search by halves: one try keeps the near root, brought into the interval, as it was, and leaves at most half the interval.
use Prim.Native.Nat.{ℕ, zero, suc, ◌+◌, ◌*◌, ◌-◌, ◌^◌, ◌≤◌, ◌<◌, min, max}
use mathlib.Core.Path.{◌≡◌, refl, sym, ap, subst, ◌∙◌}
use mathlib.Core.Bool.{Bool, true, false}
use native.Mathlib.Nat.{mul-le-mul, mul-le-mul_left}
use native.Mathlib.Omega.{arith}
use native.Mathlib.Decide.{dec_le}
use borrow.Author.Tests.{leb-true, leb-false, le-ltb}
use lib.Dec.{leb}
use Rattle.setting.specs.declared.Setting.{Setting}
use Rattle.setting.specs.Setting.{Taken}
use Rattle.quarter.specs.declared.Edge.{Edge}
use Rattle.quarter.specs.declared.Interval.{Interval}
use Rattle.quarter.specs.NearRoot.{norm, lower, near_root}
use Rattle.quarter.specs.Cutting.{amount}
use Rattle.quarter.specs.Moment.{Summed}
use Rattle.quarter.specs.Tries.{middle, halved}
use Rattle.quarter.proofs.NearRoot.{near_root_found}

-- the bound rises with the value
lower_rises : (σ : Setting) (m n : ℕ) → m ≤ n → lower σ m ≤ lower σ n
unfolding lower
lower_rises σ m n h = let o : 2 * m - 1 ≤ 2 * n - 1 = omega arith in mul-le-mul_left (64 * (σ.q * σ.q)) (mul-le-mul o o)

-- m brought into low..high
abbrev pub brought : ℕ → ℕ → ℕ → ℕ
brought low high m = max low (min high m)

-- one try from i to r: the interval reaches no higher than it did, and is at most half as long
pub record Shrunk (i r : Interval) : Type 0 where
  pub ordered : r.low ≤ r.high
  pub high : r.high ≤ i.high
  pub half : 2 * (r.high - r.low) ≤ i.high - i.low

-- the try at the middle leaves at most half, whatever it finds there
pub halved_shrinks : (f : ℕ → ℕ) (t : ℕ) (i : Interval) {r : Interval} → i.low < i.high → r ≡ halved f t i → Shrunk i r
unfolding halved
halved_shrinks f t i h e = rw e (go (leb (f (middle i)) t))
  where
    go : (b : Bool) → Shrunk i (elim b as (λ _. Interval) [ true ↦ record { low = middle i; high = i.high } | false ↦ record { low = i.low; high = middle i - 1 } ])
    go true = record { ordered = omega arith; high = omega arith; half = omega arith }
    go false = record { ordered = omega arith; high = omega arith; half = omega arith }

-- what b tries are enough for, one fewer is enough for once it has been halved
pub one_fewer : (b d e : ℕ) → 0 < d → 2 * e ≤ d → d < 2 ^ b → (1 ≤ b) × (e < 2 ^ (b - 1))
one_fewer zero d e p h l = absurd (omega arith)
one_fewer (suc b) d e p h l =
    let k : e < 2 ^ b = omega arith in
    let f : b ≡ suc b - 1 = omega arith in
    (omega arith, subst (λ (n : ℕ). e < 2 ^ n) f k)

module _ (σ : Setting) (t : Taken σ) (u v : ℕ) (s : Summed u v) where
  square : ℕ
  square = σ.w * σ.w * norm σ u v

  -- what a try says of the near root
  tried_low : (m : ℕ) → lower σ m ≤ square → m ≤ near_root σ u v
  unfolding square
  tried_low m h = elim (dec_le m (near_root σ u v)) [
    | yes k ↦ k
    | no k ↦ absurd (omega (arith, h, (near_root_found σ t u v s.u_small s.v_small).1, lower_rises σ (suc (near_root σ u v)) m (omega arith)))
  ]

  tried_high : (m : ℕ) → square < lower σ m → near_root σ u v < m
  unfolding square
  tried_high m h = elim (dec_le m (near_root σ u v)) [
    | yes k ↦ absurd (omega (arith, h, (near_root_found σ t u v s.u_small s.v_small).0, lower_rises σ m (near_root σ u v) k))
    | no k ↦ omega arith
  ]

  -- the try at the middle keeps the near root, brought into the interval
  pub halved_keeps : (i : Interval) {r : Interval} → i.low < i.high → r ≡ halved (lower σ) (σ.w * σ.w * norm σ u v) i →
      brought r.low r.high (near_root σ u v) ≡ brought i.low i.high (near_root σ u v)
  unfolding halved square
  halved_keeps i h e = rw e (go (leb (lower σ (middle i)) square) refl)
    where
      go : (b : Bool) → leb (lower σ (middle i)) square ≡ b →
          let r = elim b as (λ _. Interval) [ true ↦ record { low = middle i; high = i.high } | false ↦ record { low = i.low; high = middle i - 1 } ] in
          brought r.low r.high (near_root σ u v) ≡ brought i.low i.high (near_root σ u v)
      go true q = let k = tried_low (middle i) (leb-true _ _ q) in omega arith
      go false q = let k = tried_high (middle i) (leb-false _ _ q) in omega arith

-- what the cut is by the near root that was brought between the offsets less the shorter count and the offsets
by_brought : (whole shorter m : ℕ) → whole - brought (whole - shorter) whole m ≡ min shorter (whole - m)
by_brought whole shorter m = omega arith

-- where the test of step 1 lets the corner be cut, the root that was found, brought between `low` and the whole offset, gives the amount
module _ (σ : Setting) (L R : Edge) (h : L.u * R.v ≤ 1 + L.v * R.u) where
  abbrev whole : ℕ
  whole = L.c + R.c

  abbrev near : ℕ
  near = near_root σ (L.u + R.u) (L.v + R.v)

  amount_is : amount σ L R ≡ min (min L.l2 R.l1) (whole - near)
  unfolding amount
  amount_is = rw (le-ltb _ _ h, amount)

  pub reduced : {shorter low root : ℕ} → shorter ≡ min L.l2 R.l1 → low ≡ whole - shorter → root ≡ brought low whole near → whole - root ≡ amount σ L R
  reduced {shorter} e f g =
      ap (λ (k : ℕ). whole - k) (g ∙ ap (λ (k : ℕ). brought k whole near) f) ∙ by_brought whole shorter near
      ∙ ap (λ (k : ℕ). min k (whole - near)) e ∙ sym amount_is
