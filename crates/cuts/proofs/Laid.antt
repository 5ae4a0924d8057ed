-- Cuts laid over bytes: a cut is a span of columns, and one cut after the other blackens the columns of all of them.
use mathlib.Core.Path.{◌≡◌, refl, sym, ap, ◌∙◌}
use mathlib.Core.Bool.{Bool, false, ◌&&◌, ◌||◌, or-false, or_assoc}
use mathlib.Core.List.Memᴰ.{head}
use mathlib.Core.List.Memᴰ.{tail}
use mathlib.Core.List.{List, [], ◌∷◌, ◌++◌}
use Prim.Native.Nat.{ℕ, suc, ◌+◌, ◌≤◌, ◌<◌}
use native.Mathlib.Omega.{arith}
use borrow.Author.Tests.{ltb-true, leb-true, lt-ltb, le-leb}
use lib.Dec.{leb, ltb}
use lib.ListN.{length, get_or, take}
use lib.Seq.{take-suc}
use Rattle.integers.specs.Count.{◌∈◌}
use Rattle.integers.proofs.Tests.{same_test}
use Rattle.bits.specs.Bits.{span, blackened}
use Rattle.bits.proofs.Blackened.{blackened_ext, blackened_none, blackened_twice}
use Rattle.std.specs.Prelude.{Option, Some, None}
use Rattle.cuts.specs.declared.cut.Cut.{Cut}
use Rattle.cuts.specs.Cuts.{Below, cut_from, in_cut, black_cut}
use Rattle.cuts.proofs.Between.{cut_past}

-- ---- one cut
-- its columns are those before the one after its last
pub cut_span : (l r : ℕ) (b : List ℕ) → blackened (span l (r + 1)) b ≡ blackened (λ x. in_cut x (cut_from l r)) b
cut_span l r b = blackened_ext (span l (r + 1)) (λ x. in_cut x (cut_from l r)) b (λ x h. ap (λ (t : Bool). leb l x && t)
    (same_test (ltb x (r + 1)) (leb x r) (λ t. le-leb x r (omega (arith, ltb-true x (r + 1) t))) (λ t. lt-ltb x (r + 1) (omega (arith, leb-true x r t)))))

pub cut_none : (b : List ℕ) → b ≡ blackened (λ x. in_cut x None) b
cut_none b = blackened_none (λ x. in_cut x None) b (λ x h. refl)

-- ---- one after the other, for a loop
black_both : (cs ds : List (Option Cut)) (x : ℕ) → black_cut (cs ++ ds) x ≡ (black_cut cs x || black_cut ds x)
black_both [] ds x = refl
black_both (c ∷ cs) ds x = ap (λ (t : Bool). in_cut x c || t) (black_both cs ds x) ∙ sym (or_assoc (in_cut x c) (black_cut cs x) (black_cut ds x))

black_next : (cs : List (Option Cut)) (k : ℕ) → k < length cs → (x : ℕ) → (black_cut (take k cs) x || in_cut x (get_or cs k None)) ≡ black_cut (take (suc k) cs) x
black_next cs k h x =
    let c = get_or cs k None in
    ap (λ (t : Bool). black_cut (take k cs) x || t) (sym (or-false (in_cut x c))) ∙ sym (black_both (take k cs) (c ∷ []) x)
    ∙ ap (λ (l : List (Option Cut)). black_cut l x) (sym (take-suc cs k None h))

pub laid_none : (b : List ℕ) → b ≡ blackened (black_cut []) b
laid_none b = blackened_none (black_cut []) b (λ x h. refl)

pub laid_next : (cs : List (Option Cut)) (k : ℕ) (b : List ℕ) {c : List ℕ} → k < length cs → c ≡ blackened (black_cut (take k cs)) b →
    blackened (λ x. in_cut x (get_or cs k None)) c ≡ blackened (black_cut (take (suc k) cs)) b
laid_next cs k b h e =
    ap (blackened (λ x. in_cut x (get_or cs k None))) e
    ∙ blackened_twice (black_cut (take k cs)) (λ x. in_cut x (get_or cs k None)) (black_cut (take (suc k) cs)) b (black_next cs k h)

-- ---- no column past the raster is black
pub black_past : (cs : List (Option Cut)) (columns : ℕ) → ((c : Option Cut) → c ∈ cs → Below columns c) → (x : ℕ) → columns ≤ x → black_cut cs x ≡ false
black_past [] columns w x h = refl
black_past (None ∷ cs) columns w x h = black_past cs columns (λ c m. w c (tail m)) x h
black_past (Some c ∷ cs) columns w x h =
    ap (λ (t : Bool). t || black_cut cs x) (cut_past c.left c.right x (omega (arith, w (Some c) (head refl) c refl))) ∙ black_past cs columns (λ c m. w c (tail m)) x h
