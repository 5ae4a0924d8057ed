-- The runs of a row in which two stretches of columns are black: one run where they overlap or touch, and else the two.
use mathlib.Core.Path.{◌≡◌, refl, sym, ◌∙◌, subst}
use mathlib.Core.Logic.{◌↔◌, ◌⊎◌, inl, inr}
use mathlib.Core.Bool.{Bool, true, false, ◌&&◌, ◌||◌}
use mathlib.Core.List.{List, [], ◌∷◌}
use Prim.Native.Nat.{ℕ, ◌+◌, min, max, ◌≤◌, ◌<◌}
use native.Mathlib.Omega.{arith}
use native.Mathlib.Decide.{dec_le}
use borrow.Author.Tests.{ltb-true, ltb-false, lt-ltb, le-ltb}
use lib.Dec.{T, leb, ltb}
use Rattle.stroke.specs.Runs.{Run, Apart, Covers, runs_of}
use Rattle.stroke.proofs.Apart.{longest_same}
use Rattle.stroke.proofs.Runs.{runs_of_lem}
use Rattle.row.specs.Together.{together}
use Rattle.row.proofs.OneRun.{between_test}

-- a column that passes one test or the other
either : (t u : Bool) → T (t || u) ↔ (T t ⊎ T u)
either true u = ((λ h. inl h), λ h. tt)
either false u = ((λ h. inr h), λ h. elim h [ inl k ↦ absurd k | inr k ↦ k ])

-- ---- what a list of one run covers, and a list of two, in either order
one_covers : {A B : Type 0} → (A → B) → (B → A) → (A ⊎ ⊥) ↔ B
one_covers f g = ((λ h. elim h [ inl k ↦ f k | inr k ↦ absurd k ]), λ h. inl (g h))

two_cover : {A B : Type 0} → (A ⊎ (B ⊎ ⊥)) ↔ (A ⊎ B)
two_cover = (
  (λ h. elim h [ inl k ↦ inl k | inr k ↦ elim k [ inl m ↦ inr m | inr m ↦ absurd m ] ]),
  λ h. elim h [ inl k ↦ inl k | inr k ↦ inr (inl k) ],
)

swapped_cover : {A B : Type 0} → (B ⊎ (A ⊎ ⊥)) ↔ (A ⊎ B)
swapped_cover = (
  (λ h. elim h [ inl k ↦ inr k | inr k ↦ elim k [ inl m ↦ inl m | inr m ↦ absurd m ] ]),
  λ h. elim h [ inl k ↦ inr (inl k) | inr k ↦ inl k ],
)

module _ (r s : Run) where
  -- ---- the three ways of the definition: r is left of s, s is left of r, or no clear column is between them
  pub together_first : r.right + 1 < s.left → together r s ≡ r ∷ s ∷ []
  together_first h = rw (lt-ltb (r.right + 1) s.left h)

  pub together_second : s.left ≤ r.right + 1 → s.right + 1 < r.left → together r s ≡ s ∷ r ∷ []
  together_second h k = rw (le-ltb (r.right + 1) s.left h, lt-ltb (s.right + 1) r.left k)

  pub together_joined : s.left ≤ r.right + 1 → r.left ≤ s.right + 1 → together r s ≡ record { left = min r.left s.left; right = max r.right s.right } ∷ []
  together_joined h k = rw (le-ltb (r.right + 1) s.left h, le-ltb (s.right + 1) r.left k)

  -- ---- the columns of either
  abbrev Either : ℕ → Type 0
  Either x = ((r.left ≤ x) × (x ≤ r.right)) ⊎ ((s.left ≤ x) × (x ≤ s.right))

  -- where no clear column is between them, each column from the first of both to the last is one of either
  between : s.left ≤ r.right + 1 → r.left ≤ s.right + 1 → (x : ℕ) → min r.left s.left ≤ x → x ≤ max r.right s.right → Either x
  between h k x p q = elim (dec_le r.left x) [
    | yes m ↦ elim (dec_le x r.right) [ yes n ↦ inl (m, n) | no n ↦ inr (omega arith, omega arith) ]
    | no m ↦ inr (omega arith, omega arith)
  ]

  -- and the other way round, wherever they are
  stretch : (x : ℕ) → Either x → (min r.left s.left ≤ x) × (x ≤ max r.right s.right)
  stretch x (inl h) = (omega arith, omega arith)
  stretch x (inr h) = (omega arith, omega arith)

  module _ (n : ℕ) (f : ℕ → Bool) (e : (x : ℕ) → x < n → f x ≡ ((leb r.left x && leb x r.right) || (leb s.left x && leb x s.right))) where
    -- the black columns are those of either
    black_either : (x : ℕ) → x < n → T (f x) ↔ Either x
    black_either x h =
        let u = either (leb r.left x && leb x r.right) (leb s.left x && leb x s.right) in
        let p = between_test r.left r.right x in
        let q = between_test s.left s.right x in (
          (λ b. elim (u.0 (subst T (e x h) b)) [ inl k ↦ inl (p.0 k) | inr k ↦ inr (q.0 k) ]),
          λ b. subst T (sym (e x h)) (u.1 (elim b [ inl k ↦ inl (p.1 k) | inr k ↦ inr (q.1 k) ])),
        )

    module _ (ordered-r : r.left ≤ r.right) (inside-r : r.right < n) (ordered-s : s.left ≤ s.right) (inside-s : s.right < n) where
      below : (x : ℕ) → Either x → x < n
      below x (inl h) = omega arith
      below x (inr h) = omega arith

      -- a list that covers the same columns and is apart is the runs
      covering : (rs : List Run) → Apart 0 rs → ((x : ℕ) → Covers rs x ↔ Either x) → runs_of f n ≡ rs
      covering rs a c = longest_same (runs_of_lem f n) (record {
        apart = a;
        cover = λ x. ((λ k. let h = (c x).0 k in let m = below x h in (m, (black_either x m).1 h)), λ k. (c x).1 ((black_either x k.0).0 k.1));
      })

      pub runs_two : runs_of f n ≡ together r s
      runs_two = go (ltb (r.right + 1) s.left) (ltb (s.right + 1) r.left) refl refl
        where
          go : (t u : Bool) → ltb (r.right + 1) s.left ≡ t → ltb (s.right + 1) r.left ≡ u → runs_of f n ≡ together r s
          go true u p q =
              let h : r.right + 1 < s.left = ltb-true _ _ p in
              covering (r ∷ s ∷ []) (omega arith, ordered-r, (omega arith, ordered-s, tt)) (λ x. two_cover) ∙ sym (together_first h)
          go false true p q =
              let h : s.right + 1 < r.left = ltb-true _ _ q in
              covering (s ∷ r ∷ []) (omega arith, ordered-s, (omega arith, ordered-r, tt)) (λ x. swapped_cover) ∙ sym (together_second (ltb-false _ _ p) h)
          go false false p q =
              let h = ltb-false _ _ p in
              let k = ltb-false _ _ q in
              covering _ (omega arith, omega arith, tt) (λ x. one_covers (λ m. between h k x m.0 m.1) (stretch x)) ∙ sym (together_joined h k)
