-- What is answered of a band: the settings, the strokes, the raster, the rows and the room, held against the words.
use Prim.Native.Nat.{ℕ, ◌*◌, ◌<◌}
use native.Mathlib.Omega.{arith}
use mathlib.Core.Path.{◌≡◌, refl, sym, ap, ap₂, subst, ◌∙◌}
use mathlib.Core.Logic.{inl, inr}
use mathlib.Core.Bool.{Bool, true, false, ◌&&◌}
use mathlib.Core.List.{List}
use borrow.Author.Tests.{ltb-true, ltb-false}
use lib.Dec.{leb, ltb}
use lib.ListN.{length}
use Rattle.limits.specs.Sizes.{is_size}
use Rattle.limits.specs.declared.Verdict.{Verdict}
use Rattle.limits.specs.Refusal.{raster, row, room, unless, ◌then◌}
use Rattle.limits.proofs.Verdicts.{then_assoc}
use Rattle.limits.proofs.Exactly.{place_of, Says, passes, refuses, says_first, says_last}
use Rattle.checks.specs.Checks.{raster_verdict, row_verdict, room_verdict}
use Rattle.checks.specs.Answer.{Result, Offer, settled, given}
use Rattle.checks.proofs.Exactly.{raster_says, row_says, room_says, settled_number, settled_place, settled_none}
use Rattle.bits.specs.Bits.{packed_length}
use Rattle.band.specs.Band.{top_row}
use Rattle.band.specs.Refuses.{BadBand}
use Rattle.band.proofs.Theorems.{top_row_is}
use Rattle.pbm.specs.Pbm.{file_offer}
use Rattle.drawing.specs.declared.StrokeVerdict.{StrokeVerdict}
use Rattle.drawing.specs.Strokes.{Drawing, strokes_verdict}
use Rattle.drawing.specs.Film.{band_of}
use Rattle.drawing.specs.Theorems.{stroke_call, StrokeTold, all, one, RestRefuses, BandSays, BandPutRefuses}
use Rattle.setting_list.specs.Theorems.{GoodSetting, FirstBadSetting, SettingTold, good, bad}
use Rattle.setting_list.proofs.Made.{settings_told}
use Rattle.drawing.proofs.Told.{refused_whole, strokes_told, same_first}
use Rattle.drawing.proofs.Put.{band_long}

-- ---- 4, 5 and 7
band_says : (rows first n : ℕ) → Says (row_verdict rows (top_row rows first n)) 5 (BadBand rows first n)
band_says rows first n = go (row_says rows (top_row rows first n))
  where
    go : Says (row_verdict rows (top_row rows first n)) 5 (¬ (top_row rows first n < rows)) → Says (row_verdict rows (top_row rows first n)) 5 (BadBand rows first n)
    go (passes e h) = passes e (λ b. h ((top_row_is rows first n).1 b))
    go (refuses place e h) = refuses place e ((top_row_is rows first n).0 h)

no_place : (a b c : Bool) → place_of (unless a raster then unless b row then unless c room) ≡ 0
no_place true true true = refl
no_place true true false = refl
no_place true false c = refl
no_place false b c = refl

rest_refuses : (columns rows first n width : ℕ) (o : Offer ℕ) → o.count ≡ n * width → o.space ≡ length o.before →
    RestRefuses columns rows first n width o.before (settled (raster_verdict columns rows then row_verdict rows (top_row rows first n) then room_verdict o.count o.space) o)
rest_refuses columns rows first n width o e f =
    let v : Verdict = raster_verdict columns rows then row_verdict rows (top_row rows first n) then room_verdict o.count o.space in
    let same : room_verdict o.count o.space ≡ room_verdict (n * width) (length o.before) = ap₂ room_verdict e f in
    let s = subst (λ (w : Verdict). Says w 7 (length o.before < n * width)) (sym same) (room_says (n * width) (length o.before)) in
    let told = settled_number v o in record {
      exactly = λ k. let x = says_first (raster_says columns rows) _ _ (says_first (band_says rows first n) _ _ (says_last s)) k in ((λ q. x.0 (sym told ∙ q)), λ q. told ∙ x.1 q);
      nowhere = settled_place v o ∙ no_place (is_size columns && is_size rows) (ltb (top_row rows first n) rows) (leb o.count o.space);
    }

-- ---- the settings
-- one that is refused is not good
bad_not_good : (l : List ℕ) {a i : ℕ} → FirstBadSetting l a i → ¬ GoodSetting l i
bad_not_good l f g = elim f.exactly [ inl x ↦ g.number x.0 | inr x ↦ g.limits x.1.0 ]

-- there is one first of them, and it is refused with one number
same_place : (l : List ℕ) {a b i j : ℕ} → FirstBadSetting l a i → FirstBadSetting l b j → i ≡ j
same_place l {i = i} {j} f g = go (ltb i j) (ltb j i) refl refl
  where
    go : (x y : Bool) → ltb i j ≡ x → ltb j i ≡ y → i ≡ j
    go true y p q = absurd (bad_not_good l f (g.earlier i (ltb-true i j p)))
    go false true p q = absurd (bad_not_good l g (f.earlier j (ltb-true j i q)))
    go false false p q = omega (arith, ltb-false i j p, ltb-false j i q)

same_number : (l : List ℕ) {a b i : ℕ} → FirstBadSetting l a i → FirstBadSetting l b i → a ≡ b
same_number l f g = elim f.exactly [
  | inl x ↦ elim g.exactly [ inl y ↦ x.1 ∙ sym y.1 | inr y ↦ absurd (y.0 x.0) ]
  | inr x ↦ elim g.exactly [ inl y ↦ absurd (x.0 y.0) | inr y ↦ x.1.1 ∙ sym y.1.1 ]
]

-- ---- the whole answer, by what is told of the settings and of the strokes
module _ (d : Drawing) (columns rows first n width : ℕ) (o : Offer ℕ) (e : o.count ≡ n * width) (f : o.space ≡ length o.before) where
  abbrev answered : Verdict → StrokeVerdict → Result ℕ
  answered v s = given ((v then strokes_verdict s then raster_verdict columns rows) then row_verdict rows (top_row rows first n)) o

  says : {v : Verdict} {s : StrokeVerdict} → SettingTold d.settings v → StrokeTold d columns rows s → BandSays d columns rows first n width o.before (answered v s)
  says (bad number place g) s = record {
    either = inl (number, place, g);
    setting = λ m p h.
        let at = same_place d.settings g h in
        let told = same_number d.settings (subst (FirstBadSetting d.settings number) at g) h in
        ap₂ (λ (m p : ℕ). record { refusal = m; place = p; count = 0 }) told at;
    stroke = λ h. absurd (bad_not_good d.settings g (h place g.one));
    rest = λ h. absurd (bad_not_good d.settings g (h place g.one));
    none = λ _. refl;
    kept = λ _. refl;
  }
  says (good g) (one k h) = record {
    either = inr (g, inl (k, h));
    setting = λ m p b. absurd (bad_not_good d.settings b (g p b.one));
    stroke = λ _ m q. refused_whole d columns rows k h.refused ∙ ap (λ (i : ℕ). (stroke_call d columns rows i).answer) (same_first d columns rows h q);
    rest = λ _ q. absurd (h.refused (q k h.one));
    none = λ _. refl;
    kept = λ _. refl;
  }
  says (good g) (all h) =
      let u = raster_verdict columns rows in
      let v = row_verdict rows (top_row rows first n) in
      let w = room_verdict o.count o.space in record {
        either = inr (g, inr h);
        setting = λ m p b. absurd (bad_not_good d.settings b (g p b.one));
        stroke = λ _ k q. absurd (q.refused (h k q.one));
        rest = λ _ _. subst (λ (x : Verdict). RestRefuses columns rows first n width o.before (settled x o)) (sym (then_assoc u v w)) (rest_refuses columns rows first n width o e f);
        none = λ q. (settled_none ((u then v) then w) o q).0;
        kept = λ q. (settled_none ((u then v) then w) o q).1;
      }

pub band_put_refuses : BandPutRefuses
band_put_refuses d columns rows first n width w b =
    let same : packed_length columns ≡ width = omega (arith, w.enough, w.least) in
    let o = file_offer (band_of d columns rows first n) b in
    says d columns rows first n width o (band_long d columns rows first n ∙ ap (λ (k : ℕ). n * k) same) refl (settings_told d.settings) (strokes_told d columns rows)
