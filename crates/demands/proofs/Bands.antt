-- What calls for bands leave is the band of the definition; so its bits are those of the black pixels.
use Prim.Native.Nat.{ℕ, ◌+◌, ◌-◌, ◌*◌, ◌/◌, ◌≤◌}
use native.Mathlib.Nat.{add-mul, le-div_iff_mul-le}
use native.Mathlib.Omega.{arith}
use native.Mathlib.Decide.{dec_le}
use mathlib.Core.Path.{◌≡◌, refl, sym, ap, ap₂, subst, ◌∙◌}
use mathlib.Core.Logic.{◌⊎◌, inl, inr, ◌↔◌}
use mathlib.Core.Bool.{Bool, true, ◌||◌}
use mathlib.Core.List.{List, ◌++◌}
use lib.ListN.{length, length-append}
use lib.Seq.{take_at, drop_at}
use lib.IntN.{ℤ, pos}
use Rattle.limits.specs.declared.Verdict.{Verdict}
use Rattle.limits.specs.declared.Verdict.TheVariants.{Passed}
use Rattle.limits.proofs.Exactly.{passes, refuses, zero_later}
use Rattle.limits.proofs.Verdicts.{NotZero, then_not_zero, not_passed}
use Rattle.plane.specs.Point.{Pt}
use Rattle.wire.specs.Read.{entries_of}
use Rattle.bits.specs.Bits.{bit_at}
use Rattle.bits.proofs.Tests.{one_of, first_of, second_of}
use Rattle.setting.specs.declared.Setting.{Setting}
use Rattle.setting.specs.declared.Checked.{Checked}
use Rattle.setting.specs.declared.Checked.TheVariants as checked·
use Rattle.setting.specs.Setting.{Taken}
use Rattle.setting.specs.Answer.{checked, checked_verdict}
use Rattle.setting.specs.Exactly.{BadSetting}
use Rattle.setting.proofs.Exactly.{setting_says}
use Rattle.setting.proofs.Limits.{taken_iff}
use Rattle.setting.proofs.Answers.{checked_taken}
use Rattle.pen.specs.Polygon.{pen}
use Rattle.stroke.specs.Sweep.{path_points}
use Rattle.stroke.specs.Runs.{black_at}
use Rattle.stroke.proofs.Path.{black_path}
use Rattle.checks.specs.declared.Answer.{Answer}
use Rattle.checks.specs.Checks.{verdict, call_verdict}
use Rattle.checks.specs.Answer.{Result, given}
use Rattle.checks.proofs.Verdicts.{verdict_not_zero}
use Rattle.checks.proofs.Given.{zero_gave}
use Rattle.band.specs.Band.{band_over, top_row, band_offer, band_call}
use Rattle.band.specs.Refuses.{RefusesBand}
use Rattle.band.specs.Theorems.{LaidOver}
use Rattle.band.proofs.Theorems.{bands_meet, band_bits}
use Rattle.outcome.specs.Outcome.{host_verdict}
use Rattle.host_band.specs.HostBand.{host_band}
use Rattle.demands.specs.Reports.{heard}
use Rattle.demands.specs.Bands.{Bands, lay, c-band, atop}
use Rattle.demands.specs.Demand1.{taken_apart}
use Rattle.demands.specs.Demand2.{Pens, BandsBlack, BandsPens}
use Rattle.demands.proofs.Heard.{band_apart}
use Rattle.demands.proofs.Refusals.{band_refuses, host_given_refuses}
use Rattle.demands.proofs.Reported.{setting_not_zero, host_not_zero}
use Rattle.demands.proofs.Weight.{pens_laws}

-- the bytes hold the rows, a row its columns, and the stroke is laid over them
pub record Over (cs : List Pt) (path : List ℤ) (columns stride first n : ℕ) (before after : List ℕ) : Type 0 where
  pub some : 1 ≤ stride
  pub wide : columns ≤ 8 * stride
  pub room : n * stride ≤ length before
  pub left : after ≡ band_over cs path columns first n stride before

-- ---- one call
-- what a call that was answered 0 leaves, and whose setting it was
record Laid (σ : Setting) (path : List ℤ) (columns stride first n : ℕ) (before after : List ℕ) : Type 0 where
  over : Over (pen σ) path columns stride first n before after
  taken : Taken σ

-- a setting that refusal 1 is not given for is taken
good_taken : (σ : Setting) → ¬ BadSetting σ → Taken σ
good_taken σ h = elim (setting_says σ) [ passes p _ ↦ go (checked σ) refl p | refuses _ _ b ↦ absurd (h b) ]
  where
    go : (c : Checked) → checked σ ≡ c → checked_verdict c ≡ Passed → Taken σ
    go (checked·.Taken s) q p = (taken_iff σ).0 (checked_taken σ s q).0
    go checked·.Refused q p = not_passed p

-- whatever the checks v are, nothing of what they refuse applies
zero_laid : (σ : Setting) (path : List ℤ) (columns rows first n stride : ℕ) (before : List ℕ) (v : Verdict) {Bad : Type 0} → let o = band_offer (pen σ) path columns first n stride before in
    NotZero v → RefusesBand 1 (BadSetting σ) Bad path columns rows first n stride before (given v o) →
    (a : Answer) (after : List ℕ) → record { answer = a; list = after } ≡ given v o → a.refusal ≡ 0 → Laid σ path columns stride first n before after
zero_laid σ path columns rows first n stride before v not_zero table a after e z =
    let o = band_offer (pen σ) path columns first n stride before in
    let answered : (given v o).answer.refusal ≡ 0 = ap (λ (r : Result ℕ). r.answer.refusal) (sym e) ∙ z in
    let setting = zero_later ((table.exactly 0).0 answered) in
    let raster = zero_later (zero_later setting.1).1 in
    let room = (zero_later (zero_later (zero_later raster.1).1).1).0 in
    let columns_some : 1 ≤ columns = elim (dec_le 1 columns) [ yes h ↦ h | no h ↦ absurd (raster.0 (inl (inl (omega arith)))) ] in
    let fits : (columns + 7) / 8 ≤ stride = elim (dec_le ((columns + 7) / 8) stride) [ yes h ↦ h | no h ↦ absurd (room (inl (omega arith))) ] in
    let enough : n ≤ length before / stride = elim (dec_le n (length before / stride)) [ yes h ↦ h | no h ↦ absurd (room (inr (omega arith))) ] in record {
      over = record {
        some = omega arith;
        wide = omega arith;
        room = (le-div_iff_mul-le {k = stride} {x = n} {y = length before} (omega arith)).0 enough;
        left = (zero_gave o v not_zero a after e z).left;
      };
      taken = good_taken σ setting.0;
    }

lay_laid : (σ : Setting) (path : List ℤ) (columns rows first n stride : ℕ) (before after : List ℕ) (a : Answer) →
    record { answer = a; list = after } ≡ band_call σ path columns rows first n stride before → a.refusal ≡ 0 → Laid σ path columns stride first n before after
unfolding band_call
lay_laid σ path columns rows first n stride before after a e z =
    let c = checked_verdict (checked σ) in
    let j = top_row rows first n in
    zero_laid σ path columns rows first n stride before (call_verdict c path columns rows j)
    (then_not_zero c (verdict path columns rows j) (setting_not_zero (checked σ)) (verdict_not_zero path columns rows j)) (band_refuses σ path columns rows first n stride before) a after e z

c_laid : (σ : Setting) (bytes : List ℕ) (columns rows first n stride : ℕ) (before after : List ℕ) (answer : ℕ) →
    record { answer = answer; bytes = after } ≡ host_band σ bytes columns rows first n stride before → (heard answer).refusal ≡ 0 →
    Laid σ (entries_of bytes) columns stride first n before after
unfolding host_band
c_laid σ bytes columns rows first n stride before after answer e z =
    let j = top_row rows first n in
    zero_laid σ (entries_of bytes) columns rows first n stride before (host_verdict σ bytes columns rows j) (host_not_zero σ bytes columns rows j)
    (host_given_refuses σ bytes columns rows first n stride before) (heard answer) after (ap taken_apart e ∙ band_apart σ bytes columns rows first n stride before) z

-- ---- bands one after the other
over_same : {cs ds : List Pt} {p path : List ℤ} {columns stride first n : ℕ} {before after : List ℕ} → cs ≡ ds → p ≡ path →
    Over cs p columns stride first n before after → Over ds path columns stride first n before after
over_same {ds = ds} {p} {columns = columns} {stride} {first} {n} {before} {after} q b o =
    subst (λ (path : List ℤ). Over ds path columns stride first n before after) b (subst (λ (cs : List Pt). Over cs p columns stride first n before after) q o)

module _ {cs : List Pt} {path : List ℤ} {columns stride : ℕ} where
  over_atop : {first k m : ℕ} {b b' d d' : List ℕ} → length b ≡ m * stride → Over cs path columns stride (first + k) m b b' → Over cs path columns stride first k d d' →
      Over cs path columns stride first (k + m) (b ++ d) (b' ++ d')
  over_atop {first} {k} {m} {b} {b'} {d} {d'} l u v = record {
    some = u.some;
    wide = u.wide;
    room = omega (arith, add-mul k m stride, length-append b d, l, v.room);
    left =
        ap₂ ◌++◌
        (u.left ∙ ap (band_over cs path columns (first + k) m stride) (sym (take_at b d (m * stride) l)))
        (v.left ∙ ap (band_over cs path columns first k stride) (sym (drop_at b d (m * stride) l)))
        ∙ sym (bands_meet cs path columns first k m stride (b ++ d) u.some);
  }

pub bands_over : {cs : List Pt} {path : List ℤ} {columns rows stride first n : ℕ} {before after : List ℕ} → Bands cs path columns rows stride first n before after →
    Over cs path columns stride first n before after
bands_over {path = path} {columns} {rows} {stride} (lay σ q first n before after a e z) = over_same q refl (lay_laid σ path columns rows first n stride before after a e z).over
bands_over {columns = columns} {rows} {stride} (c-band σ q bytes b first n before after answer e z) = over_same q b (c_laid σ bytes columns rows first n stride before after answer e z).over
bands_over (atop l u v) = over_atop l (bands_over u) (bands_over v)

pub bands_pens : BandsPens
bands_pens cs path columns rows stride first n before after r = go r
  where
    go : {first n : ℕ} {before after : List ℕ} → Bands cs path columns rows stride first n before after → Pens cs
    go (lay σ q first n before after a e z) = record { setting = σ; taken = (lay_laid σ path columns rows first n stride before after a e z).taken; same = q }
    go (c-band σ q bytes b first n before after answer e z) = record { setting = σ; taken = (c_laid σ bytes columns rows first n stride before after answer e z).taken; same = q }
    go (atop l u v) = go u

-- ---- its bits
either : (a b : Bool) → ((a || b) ≡ true) ↔ ((a ≡ true) ⊎ (b ≡ true))
either a b = (one_of a b, λ h. elim h [ inl p ↦ first_of a b p | inr p ↦ second_of a b p ])

pub bands_black : BandsBlack
bands_black cs path columns rows stride first n before after r =
    let o = bands_over r in
    let p = bands_pens cs path columns rows stride first n before after r in
    let black : ℕ → ℕ → Bool = λ j x. black_at cs (path_points path) (pos j) (pos x) in
    let l : LaidOver black columns first n stride before after = subst (LaidOver black columns first n stride before) (sym o.left) (band_bits cs path columns first n stride before o.wide o.room) in record {
      bits = λ i x h k.
          let at = 8 * stride * i + x in
          let j = first + (n - 1) - i in
          let s = either (bit_at before at) (black j x) in
          let q = black_path cs _ _ (pens_laws p) (path_points path) (pos x) (pos j) in (
            (λ t. elim (s.0 (sym (l.pixels i x h k) ∙ t)) [ inl a ↦ inl a | inr a ↦ inr (q.0 a) ]),
            λ t. l.pixels i x h k ∙ s.1 (elim t [ inl a ↦ inl a | inr a ↦ inr (q.1 a) ]),
          );
      others = l.others;
      past = l.past;
      size = l.size;
    }
