-- A line put piece by piece is the line put at once.
use Prim.Native.Nat.{ℕ, ◌+◌, ◌≤◌}
use native.Mathlib.Omega.{arith}
use mathlib.Core.Path.{◌≡◌, sym, ap, ◌∙◌}
use mathlib.Core.Bool.{Bool, cond}
use mathlib.Core.List.{List, [], ◌∷◌, ◌++◌}
use lib.ListN.{length, length-append}
use Rattle.limits.specs.Sizes.{raster_max}
use Rattle.text.specs.Decimal.{decimal}
use Rattle.text.specs.Put.{Put, put_at}
use Rattle.text.proofs.Decimal.{few_digits}
use Rattle.text.proofs.Pieces.{put_next}
use Rattle.text.specs.Ascii.{ascii}
use Rattle.lines.specs.Lines.{row_text, film_text, pixel_text}
use Rattle.lines.proofs.Texts.{film_text_lem, film_long}

-- a piece behind others, where all of them have room
pub behind : (b : List ℕ) (at : ℕ) (s t : List ℕ) {P Q : Put} → P ≡ put_at b at s → Q ≡ put_at P.buffer P.end t → at + length s + length t ≤ length b → Q ≡ put_at b at (s ++ t)
behind b at s t p q h = put_next b at s t h p q

-- "row ROW NUMBER"
pub row_pieces : (b : List ℕ) (j n : ℕ) → j ≤ raster_max → n ≤ raster_max → 16 ≤ length b → {P₁ P₂ P₃ P₄ P₅ : Put} →
    P₁ ≡ put_at b 0 (114 ∷ 111 ∷ 119 ∷ 32 ∷ []) →
    P₂ ≡ put_at P₁.buffer P₁.end (decimal j) →
    P₃ ≡ put_at P₂.buffer P₂.end (32 ∷ []) →
    P₄ ≡ put_at P₃.buffer P₃.end (decimal n) →
    P₅ ≡ put_at P₄.buffer P₄.end (10 ∷ []) →
    P₅ ≡ put_at b 0 (row_text j n)
unfolding ascii
row_pieces b j n hj hn room e₁ e₂ e₃ e₄ e₅ =
    let dj = few_digits j (omega arith) in
    let dn = few_digits n (omega arith) in
    let t₁ : List ℕ = 114 ∷ 111 ∷ 119 ∷ 32 ∷ [] in
    let t₂ : List ℕ = t₁ ++ decimal j in
    let t₃ : List ℕ = t₂ ++ (32 ∷ []) in
    let t₄ : List ℕ = t₃ ++ decimal n in
    let l₂ = length-append t₁ (decimal j) in
    let l₃ = length-append t₂ (32 ∷ []) in
    let l₄ = length-append t₃ (decimal n) in
    let f₂ = behind b 0 t₁ (decimal j) e₁ e₂ (omega arith) in
    let f₃ = behind b 0 t₂ (32 ∷ []) f₂ e₃ (omega arith) in
    let f₄ = behind b 0 t₃ (decimal n) f₃ e₄ (omega arith) in
    behind b 0 t₄ (10 ∷ []) f₄ e₅ (omega arith)

-- the end of a pixel's line
pub film_put : (b : List ℕ) (at : ℕ) {first t : Bool} → first ≡ t → put_at b at (32 ∷ cond t 49 50 ∷ 10 ∷ []) ≡ put_at b at (film_text (cond first 1 2))
film_put b at {first} {t} e = ap (λ (f : Bool). put_at b at (32 ∷ cond f 49 50 ∷ 10 ∷ [])) (sym e) ∙ ap (put_at b at) (sym (film_text_lem first))

-- "COLUMN ROW FILM"
pub pixel_pieces : (b : List ℕ) (at i : ℕ) (digits : List ℕ) (first : Bool) → i ≤ raster_max → length digits ≤ 5 → at + 14 ≤ length b → {P₁ P₂ P₃ P₄ : Put} →
    P₁ ≡ put_at b at (decimal i) →
    P₂ ≡ put_at P₁.buffer P₁.end (32 ∷ []) →
    P₃ ≡ put_at P₂.buffer P₂.end digits →
    P₄ ≡ put_at P₃.buffer P₃.end (film_text (cond first 1 2)) →
    P₄ ≡ put_at b at (pixel_text i digits (cond first 1 2))
unfolding ascii
pixel_pieces b at i digits first hi hd room e₁ e₂ e₃ e₄ =
    let di = few_digits i (omega arith) in
    let t₁ : List ℕ = decimal i in
    let t₂ : List ℕ = t₁ ++ (32 ∷ []) in
    let t₃ : List ℕ = t₂ ++ digits in
    let l₂ = length-append t₁ (32 ∷ []) in
    let l₃ = length-append t₂ digits in
    let l₄ = film_long first in
    let f₂ = behind b at t₁ (32 ∷ []) e₁ e₂ (omega arith) in
    let f₃ = behind b at t₂ digits f₂ e₃ (omega arith) in
    behind b at t₃ (film_text (cond first 1 2)) f₃ e₄ (omega arith)
