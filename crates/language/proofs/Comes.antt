-- What the bytes from a rest on come to, and what a spelled command says of it.
use Prim.Native.Nat.{ℕ}
use native.Mathlib.Omega.{arith}
use mathlib.Core.Path.{◌≡◌, refl, sym, ap, ◌∙◌, subst}
use mathlib.Core.Bool.{true}
use mathlib.Core.List.{List, [], ◌∷◌, ◌++◌, append-nil}
use lib.ListN.{length, length-append}
use lib.IntN.{pos}
use Rattle.scan.specs.declared.Mode.{Mode}
use Rattle.scan.specs.declared.Mode.TheVariants.{Bad, Outside}
use Rattle.scan.specs.Next.{next}
use Rattle.language.specs.Grammar.{Form, Spelled, Phase, Allowed}
use Rattle.language.proofs.Inside.{is_inside, upto, upto_inside, upto_outside, upto_append}
use Rattle.language.proofs.Walks.{State, Ends, last, before}
use Rattle.language.proofs.Spelt.{stop_rests, spelt}
use Rattle.language.proofs.Rests.{gap_of, rests_not_bad}

-- the first byte is read whatever the mode, and the others while inside
abbrev pub comes : Mode → List ℕ → Mode
comes m [] = m
comes m (b ∷ l) = upto (next m b) l

inside_comes : (m : Mode) → is_inside m ≡ true → (l : List ℕ) → upto m l ≡ comes m l
unfolding upto
inside_comes m i [] = refl
inside_comes m i (b ∷ l) = upto_inside m i b l

-- a command comes to its last mode, whatever follows it
pub ends_comes : {t u : State} {w : List ℕ} → Ends t w u → (k : List ℕ) → comes t.mode (w ++ k) ≡ u.mode
ends_comes {t} (last b i) k = upto_outside (next t.mode b) i k
ends_comes {t} (before {l = l} b i h) k = inside_comes (next t.mode b) i (l ++ k) ∙ ends_comes h k

-- and each of its beginnings is inside it
begins_inside : {t u : State} {w : List ℕ} → Ends t w u → (b : ℕ) (l : List ℕ) (c : ℕ) (k : List ℕ) → w ≡ b ∷ l ++ (c ∷ k) → is_inside (upto (next t.mode b) l) ≡ true
unfolding upto
begins_inside (last d i) b l c k e = absurd (omega (arith, simp length-append at (ap length e)))
begins_inside {t} (before d i h) b [] c k e = let f : d ≡ b = cc in subst (λ (z : ℕ). is_inside (next t.mode z) ≡ true) f i
begins_inside {t} (before {l = w} d i h) b (a ∷ l) c k e =
    let f : d ≡ b = cc in
    let g : w ≡ a ∷ l ++ (c ∷ k) = cc in
    let j = begins_inside h a l c k g in
    subst (λ (z : ℕ). is_inside (upto (next t.mode z) (a ∷ l)) ≡ true) f (ap is_inside (upto_inside (next t.mode d) i a l) ∙ j)

-- ---- of a spelled command
module _ {p q : Phase} {f : Form} (a : Allowed p f q) where
  -- where bytes start with one, they do not come to Bad
  pub starts_good : {w : List ℕ} → Spelled f w → (b : ℕ) (l k : List ℕ) → w ++ k ≡ b ∷ l → ¬ (upto (next (Outside (gap_of p)) b) l ≡ Bad)
  starts_good s b l k e bad = rests_not_bad (stop_rests a) (sym (ends_comes (spelt a s (pos 0) (pos 0)) k) ∙ ap (comes (Outside (gap_of p))) e ∙ bad)

  -- nor where they are the beginning of one
  pub begins_good : (b : ℕ) (l k : List ℕ) → Spelled f (b ∷ l ++ k) → ¬ (upto (next (Outside (gap_of p)) b) l ≡ Bad)
  begins_good b l k s bad =
      starts_good s b (l ++ k) [] (append-nil (b ∷ l ++ k))
      (upto_append (next (Outside (gap_of p)) b) l k ∙ ap (λ (m : Mode). upto m k) bad ∙ upto_outside Bad refl k)

  -- and where they are not all of it, they come to a mode inside it
  pub cut_inside : (b : ℕ) (l : List ℕ) (c : ℕ) (k : List ℕ) → Spelled f (b ∷ l ++ (c ∷ k)) → is_inside (upto (next (Outside (gap_of p)) b) l) ≡ true
  cut_inside b l c k s = begins_inside (spelt a s (pos 0) (pos 0)) b l c k refl
