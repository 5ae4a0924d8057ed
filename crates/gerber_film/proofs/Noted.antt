-- What the lists hold where every stroke has a place: the apertures and the first entries of all of them, in order, behind what was noted before.
use Prim.Native.Nat.{ℕ, suc, ◌+◌, ◌≤◌, ◌<◌}
use native.Mathlib.Omega.{arith}
use mathlib.Core.Path.{◌≡◌, refl, sym, ap, ◌∙◌, subst}
use mathlib.Core.Bool.{Bool, true, cond}
use mathlib.Core.List.{List, [], ◌∷◌, ◌++◌, append_assoc, append-nil}
use borrow.Author.Tests.{lt-ltb}
use lib.Dec.{ltb}
use lib.ListN.{length, take, set, length-set}
use lib.Seq.{take-suc-set}
use Rattle.integers.proofs.Tests.{and_true}
use Rattle.gerber.specs.Reader.{Stroke}
use Rattle.gerber_file.specs.Calls.{Handed}
use Rattle.gather.specs.Gather.{Notes, has_place, noted, all_noted}

abbrev pub apertures_of : List Handed → List ℕ
apertures_of [] = []
apertures_of (e ∷ es) = e.thing.aperture ∷ apertures_of es

abbrev pub firsts_of : List Handed → List ℕ
firsts_of [] = []
firsts_of (e ∷ es) = e.thing.first ∷ firsts_of es

-- so many strokes more have a place in both lists
pub record Places (n : Notes) (m : ℕ) : Type 0 where
  pub apertures : n.count + m ≤ length n.apertures
  pub starts : n.count + m ≤ length n.starts

-- m is n with these strokes noted
pub record AllStand (n m : Notes) (es : List Handed) : Type 0 where
  pub count : m.count ≡ n.count + length es
  pub lost : m.lost ≡ n.lost
  pub apertures : take m.count m.apertures ≡ take n.count n.apertures ++ apertures_of es
  pub starts : take m.count m.starts ≡ take n.count n.starts ++ firsts_of es
  pub starts_length : length m.starts ≡ length n.starts

-- ---- one stroke
abbrev stored : Notes → Stroke → Notes
stored n e = record { apertures = set n.apertures n.count e.aperture; starts = set n.starts n.count e.first; count = n.count + 1; lost = n.lost }

noted_stored : (n : Notes) (e : Stroke) → n.count < length n.apertures → n.count < length n.starts → noted n e ≡ stored n e
unfolding noted
noted_stored n e h k =
    let has : has_place n ≡ true = and_true (ltb n.count (length n.apertures)) (ltb n.count (length n.starts)) (lt-ltb n.count (length n.apertures) h)
    (lt-ltb n.count (length n.starts) k) in
    ap (λ (b : Bool). cond b (stored n e) (record { apertures = n.apertures; starts = n.starts; count = n.count; lost = true })) has

-- a list with one entry more, and those behind it
one_longer : (l : List ℕ) (i x : ℕ) (xs : List ℕ) → i < length l → take (i + 1) (set l i x) ++ xs ≡ take i l ++ x ∷ xs
one_longer l i x xs h =
    let e : i + 1 ≡ suc i = omega arith in
    ap (λ (k : ℕ). take k (set l i x) ++ xs) e ∙ ap (λ (z : List ℕ). z ++ xs) (take-suc-set l i x h) ∙ append_assoc (take i l) (x ∷ []) xs

-- ---- all of them
pub all_stand : (es : List Handed) (n : Notes) → Places n (length es) → AllStand n (all_noted n es) es
unfolding all_noted
all_stand [] n h = record {
  count = omega arith;
  lost = refl;
  apertures = sym (append-nil (take n.count n.apertures));
  starts = sym (append-nil (take n.count n.starts));
  starts_length = refl;
}
all_stand (e ∷ es) n h =
    let x = e.thing.aperture in
    let f = e.thing.first in
    let ha : n.count < length n.apertures = omega (arith, h.apertures) in
    let hs : n.count < length n.starts = omega (arith, h.starts) in
    let la = length-set n.apertures n.count x in
    let ls = length-set n.starts n.count f in
    let r = all_stand es (stored n e.thing) (record { apertures = omega (arith, h.apertures, la); starts = omega (arith, h.starts, ls) }) in
    subst (λ (m : Notes). AllStand n (all_noted m es) (e ∷ es)) (sym (noted_stored n e.thing ha hs))
    (record {
      count = omega (arith, r.count);
      lost = r.lost;
      apertures = r.apertures ∙ one_longer n.apertures n.count x (apertures_of es) ha;
      starts = r.starts ∙ one_longer n.starts n.count f (firsts_of es) hs;
      starts_length = r.starts_length ∙ ls;
    })
