-- Each refusal exactly when it applies, in the order of the checks: the headers, their sizes, the ends of the files.
use Prim.Native.Nat.{ℕ}
use mathlib.Core.Path.{◌≡◌, refl}
use mathlib.Core.Logic.{◌↔◌}
use mathlib.Core.Bool.{Bool, true, false, cond, ◌&&◌}
use mathlib.Core.List.{List}
use lib.Dec.{ltb, eqb}
use Rattle.std.specs.Prelude.{Ok, Err}
use Rattle.limits.specs.Exactly.{◌when◌else◌, done}
use Rattle.limits.proofs.Exactly.{applies_here, applies_later, applies_none, tested}
use Rattle.pbm.specs.declared.read.Header.{Header}
use Rattle.pbm.specs.declared.read.Header.TheVariants.{Sound, Unsound}
use Rattle.pbm.specs.Reading.{header_in}
use Rattle.pbm.specs.Theorems.{Headed}
use Rattle.pbm.proofs.Headed.{header_sound}
use Rattle.compare.specs.declared.Refusal.TheVariants.{UnequalSizes}
use Rattle.compare.specs.Refusals.{sizes_of, Ends, ends_of}
use Rattle.compare.specs.Report.{end_of, report_ended, report_sized}
use Rattle.compare.specs.Theorems.{BadHeader, UnequalHeaders, ShortData, BytesAfter, refusal_of, RefusedExactly}
use Rattle.compare.proofs.Heads.{unsound_bad, sizes_agree, sizes_differ, same_header, heads_unequal, heads_equal}
use Rattle.compare.proofs.FileEnds.{end_short, end_not_short, end_after, end_not_after}

module _ (f g : List ℕ) where
  -- the table from its fourth line on, from its third, and whole
  abbrev EndRefusals : ℕ → Type 0
  EndRefusals = 4 when ShortData f else 5 when ShortData g else 6 when BytesAfter f else 7 when BytesAfter g else done

  abbrev SizeRefusals : ℕ → Type 0
  SizeRefusals = 3 when UnequalHeaders f g else EndRefusals

  abbrev pub AllRefusals : ℕ → Type 0
  AllRefusals = 1 when BadHeader f else 2 when BadHeader g else SizeRefusals

  -- the ends of two files whose headers say the same
  ends_exactly : {columns rows start : ℕ} → Headed f columns rows start → Headed g columns rows start → (k : ℕ) →
      (refusal_of (report_ended f g columns rows start (ends_of (end_of f columns rows start) (end_of g columns rows start))) ≡ k) ↔ EndRefusals k
  ends_exactly {columns} {rows} {start} h h' =
      let a = end_of f columns rows start in
      let b = end_of g columns rows start in
      let number : Ends → ℕ = λ e. refusal_of (report_ended f g columns rows start e) in
      tested number (ltb a 1) refl (end_short h) (end_not_short h)
      (tested number (ltb b 1) refl (end_short h') (end_not_short h')
      (tested number (ltb 1 a) refl (end_after h) (end_not_after h)
      (tested number (ltb 1 b) refl (end_after h') (end_not_after h') (applies_none refl))))

  -- the sizes of two headers, and then the ends
  sizes_exactly : {c r n d s m : ℕ} → Headed f c r n → Headed g d s m → (k : ℕ) → (refusal_of (report_sized f g (sizes_of (Sound c r n) (Sound d s m))) ≡ k) ↔ SizeRefusals k
  sizes_exactly {c} {r} {n} {d} {s} {m} h h' = go (eqb c d && eqb r s) refl
    where
      go : (t : Bool) → (eqb c d && eqb r s) ≡ t → (k : ℕ) → (refusal_of (report_sized f g (cond t (Ok (record { columns = c; rows = r; start = n })) (Err UnequalSizes))) ≡ k) ↔ SizeRefusals k
      go true e = let same = sizes_agree c r d s e in applies_later (heads_equal h h' same) (ends_exactly h (same_header h h' same))
      go false e = applies_here _ (heads_unequal h h' (sizes_differ c r d s e)) refl

-- the headers, and then their sizes
pub refused_exactly : RefusedExactly
refused_exactly f g = go (header_in f) refl (header_in g) refl
  where
    go : (h : Header) → header_in f ≡ h → (h' : Header) → header_in g ≡ h' → (k : ℕ) → (refusal_of (report_sized f g (sizes_of h h')) ≡ k) ↔ AllRefusals f g k
    go Unsound e h' e' = applies_here _ (unsound_bad e) refl
    go (Sound c r n) e Unsound e' = applies_later (λ b. b c r n ((header_sound f c r n).0 e)) (applies_here _ (unsound_bad e') refl)
    go (Sound c r n) e (Sound d s m) e' =
        let h = (header_sound f c r n).0 e in
        let h' = (header_sound g d s m).0 e' in
        applies_later (λ b. b c r n h) (applies_later (λ b. b d s m h') (sizes_exactly f g h h'))
