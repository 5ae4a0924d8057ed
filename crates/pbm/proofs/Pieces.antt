-- The header, piece by piece; and what stands in the buffer where it was put, or refused.
use Prim.Native.Nat.{ℕ, ◌+◌, ◌≤◌}
use native.Mathlib.Omega.{arith}
use mathlib.Core.Path.{◌≡◌, refl, sym, ap, ◌∙◌}
use mathlib.Core.Bool.{Bool, true, false, ◌&&◌}
use mathlib.Core.List.{List, [], ◌∷◌, ◌++◌}
use lib.ListN.{length, take, drop, length-append}
use lib.Seq.{take_at}
use borrow.Author.Tests.{le-leb}
use Rattle.integers.proofs.Tests.{and_both, and_true}
use Rattle.limits.specs.Sizes.{is_size}
use Rattle.limits.specs.Refusal.{raster}
use Rattle.limits.specs.declared.Verdict.{Verdict}
use Rattle.limits.specs.declared.Verdict.TheVariants.{Passed, Refused}
use Rattle.limits.proofs.Verdicts.{unless_true, unless_refused, unless_not_zero}
use Rattle.checks.specs.declared.Answer.{Answer}
use Rattle.checks.specs.Checks.{raster_verdict}
use Rattle.checks.specs.Answer.{Result, done}
use Rattle.checks.proofs.Given.{zero_gave}
use Rattle.text.specs.Put.{Put, put_at, started}
use Rattle.text.proofs.Pieces.{put_next, put_started}
use Rattle.text.proofs.Decimal.{size_few}
use Rattle.pbm.specs.Pbm.{headed, header, file_offer, header_put}

-- the length of a header with these digits
pub header_length : (columns rows : List ℕ) → length (headed columns rows) ≡ length columns + length rows + 5
header_length columns rows = simp length-append (omega arith)

-- a header has at most 15 bytes, since a size has at most five digits
pub header_few : (columns rows : ℕ) → is_size columns ≡ true → is_size rows ≡ true → length (header columns rows) ≤ 15
header_few columns rows c r = simp length-append (omega (arith, size_few columns c, size_few rows r))

-- five pieces, each behind the one before, are a header at the start of the buffer
pub five_pieces : (columns rows b : List ℕ) {P₁ P₂ P₃ P₄ P₅ : Put} → length columns + length rows + 5 ≤ length b →
    P₁ ≡ put_at b 0 (80 ∷ 52 ∷ 10 ∷ []) →
    P₂ ≡ put_at P₁.buffer P₁.end columns →
    P₃ ≡ put_at P₂.buffer P₂.end (32 ∷ []) →
    P₄ ≡ put_at P₃.buffer P₃.end rows →
    P₅ ≡ put_at P₄.buffer P₄.end (10 ∷ []) →
    P₅.buffer ≡ started (headed columns rows) b
five_pieces columns rows b h e₁ e₂ e₃ e₄ e₅ =
    let p₁ : List ℕ = 80 ∷ 52 ∷ 10 ∷ [] in
    let p₂ : List ℕ = p₁ ++ columns in
    let p₃ : List ℕ = p₂ ++ (32 ∷ []) in
    let p₄ : List ℕ = p₃ ++ rows in
    let l₂ : length p₂ ≡ length columns + 3 = simp length-append (omega arith) in
    let l₃ : length p₃ ≡ length columns + 4 = simp length-append (omega arith) in
    let l₄ : length p₄ ≡ length columns + length rows + 4 = simp length-append (omega arith) in
    let f₂ = put_next b 0 p₁ columns (omega arith) e₁ e₂ in
    let f₃ = put_next b 0 p₂ (32 ∷ []) (omega arith) f₂ e₃ in
    let f₄ = put_next b 0 p₃ rows (omega arith) f₃ e₄ in
    let f₅ = put_next b 0 p₄ (10 ∷ []) (omega arith) f₄ e₅ in
    ap (λ (r : Put). r.buffer) (f₅ ∙ put_started b (headed columns rows) (omega (arith, header_length columns rows)))

pub same_digits : {w w' h h' : List ℕ} (b : List ℕ) → w ≡ w' → h ≡ h' → started (headed w h) b ≡ started (headed w' h') b
same_digits {w} {w'} {h} {h'} b p q = ap (λ (l : List ℕ). started (headed l h) b) p ∙ ap (λ (l : List ℕ). started (headed w' l) b) q

-- the check of the raster, where it is passed, and where it is refused
pub raster_sizes : (columns rows : ℕ) {v : Verdict} → v ≡ raster_verdict columns rows → v ≡ Passed → (is_size columns ≡ true) × (is_size rows ≡ true)
raster_sizes columns rows e f = and_both (is_size columns) (is_size rows) (unless_true (is_size columns && is_size rows) raster (sym e ∙ f))

pub no_raster : (columns rows : ℕ) {v : Verdict} {n place : ℕ} → v ≡ raster_verdict columns rows → v ≡ Refused n place → (is_size columns && is_size rows) ≡ false
no_raster columns rows e f = (unless_refused (is_size columns && is_size rows) raster e f).1

-- ---- a header that is put: sizes inside their limits, and room for it
pub header_whole : (columns rows : ℕ) → is_size columns ≡ true → is_size rows ≡ true → (b : List ℕ) → length (header columns rows) ≤ length b →
    header_put columns rows b ≡ record { answer = done (length (header columns rows)); list = started (header columns rows) b }
header_whole columns rows c r b l = rw (c, r, le-leb (length (header columns rows)) (length b) l)

-- where 15 bytes were lent and it was refused, a size is outside its limits
pub header_refused : (columns rows : ℕ) (b : List ℕ) {a : Answer} {l : List ℕ} → 15 ≤ length b →
    record { answer = a; list = l } ≡ header_put columns rows b →
    ¬ (a.refusal ≡ 0) →
    (is_size columns && is_size rows) ≡ false
header_refused columns rows b {a} {l} h e n = go (is_size columns && is_size rows) refl
  where
    go : (t : Bool) → (is_size columns && is_size rows) ≡ t → t ≡ false
    go true f =
        let s = and_both (is_size columns) (is_size rows) f in
        let w = header_whole columns rows s.0 s.1 b (omega (arith, header_few columns rows s.0 s.1)) in
        absurd (n (ap (λ (r : Result ℕ). r.answer.refusal) (e ∙ w)))
    go false f = refl

-- where it was not refused it stands at the start, as many bytes as were told
pub record Stands (columns rows : ℕ) (a : Answer) (l : List ℕ) : Type 0 where
  pub sizes : (is_size columns && is_size rows) ≡ true
  pub count : a.count ≡ length (header columns rows)
  pub fits : a.count ≤ length l
  pub text : take a.count l ≡ header columns rows

pub header_stands : (columns rows : ℕ) (b : List ℕ) {a : Answer} {l : List ℕ} → record { answer = a; list = l } ≡ header_put columns rows b → a.refusal ≡ 0 → Stands columns rows a l
header_stands columns rows b {a} {l} e z =
    let h : List ℕ = header columns rows in
    let g = zero_gave (file_offer h b) (raster_verdict columns rows) (unless_not_zero (is_size columns && is_size rows) raster) a l e z in
    let s = raster_sizes columns rows refl g.passed in
    let long : length l ≡ length h + length (drop (length h) b) = ap length g.left ∙ length-append h (drop (length h) b) in
    record {
      sizes = and_true (is_size columns) (is_size rows) s.0 s.1;
      count = g.count;
      fits = omega (arith, g.count);
      text = ap (take a.count) g.left ∙ take_at h (drop (length h) b) a.count (sym g.count);
    }
