-- The strokes of a drawing, one more at a time: the first that is refused is the answer.
use Prim.Native.Nat.{ℕ, suc, ◌+◌, ◌-◌, ◌≤◌}
use mathlib.Core.Path.{◌≡◌, refl, sym}
use mathlib.Core.Bool.{false, ◌&&◌}
use mathlib.Core.List.{List, []}
use native.Mathlib.Omega.{arith}
use lib.Dec.{leb}
use lib.ListN.{length, get_or, take, drop}
use lib.IntN.{ℤ}
use borrow.Author.Tests.{le-leb}
use Rattle.limits.specs.declared.Verdict.TheVariants.{Passed, Refused}
use Rattle.drawing.specs.declared.StrokeVerdict.TheVariants.{AllTaken, Stroke}
use Rattle.drawing.specs.Strokes.{Drawing, path_of, stroke_verdict, first_from}
use Rattle.drawing.proofs.Rows.{drop_of_take}

-- ---- the entries of a stroke
in_order : (starts : List ℕ) (entries : List ℤ) (k : ℕ) → get_or starts k 0 ≤ get_or starts (k + 1) 0 → get_or starts (k + 1) 0 ≤ length entries →
    take (get_or starts (k + 1) 0 - get_or starts k 0) (drop (get_or starts k 0) entries) ≡ path_of starts entries k
unfolding path_of
in_order starts entries k h l =
    let a = get_or starts k 0 in
    let e = get_or starts (k + 1) 0 in
    rw (path_of, le-leb a e h, le-leb e (length entries) l) (sym (drop_of_take entries a e))

out_of_order : (starts : List ℕ) (entries : List ℤ) (k : ℕ) → (leb (get_or starts k 0) (get_or starts (k + 1) 0) && leb (get_or starts (k + 1) 0) (length entries)) ≡ false →
    [] ≡ path_of starts entries k
unfolding path_of
out_of_order starts entries k e = rw (path_of, e)

-- of its start and the next one: they are in order within the list, or not
module _ (starts : List ℕ) (entries : List ℤ) (k first end : ℕ) (e : first ≡ get_or starts k 0) (f : end ≡ get_or starts (k + 1) 0) where
  pub path_here : first ≤ end → end ≤ length entries → take (end - first) (drop first entries) ≡ path_of starts entries k
  path_here h l = rw (e, f) (in_order starts entries k (omega (arith, h, e, f)) (omega (arith, l, f)))

  pub path_nowhere : (leb first end && leb end (length entries)) ≡ false → [] ≡ path_of starts entries k
  path_nowhere h = out_of_order starts entries k (rw (e, f) at h)

-- ---- one stroke after the other
module _ (d : Drawing) (columns rows k : ℕ) where
  pub no_stroke_lem : AllTaken ≡ first_from d columns rows k 0
  unfolding first_from
  no_stroke_lem = refl

  pub stroke_taken : (n : ℕ) → stroke_verdict d columns rows k ≡ Passed → first_from d columns rows k (suc n) ≡ first_from d columns rows (suc k) n
  unfolding first_from
  stroke_taken n e = rw (first_from, e)

  pub stroke_refused : (n number place : ℕ) → stroke_verdict d columns rows k ≡ Refused number place → first_from d columns rows k (suc n) ≡ Stroke k number place
  unfolding first_from
  stroke_refused n number place e = rw (first_from, e)
