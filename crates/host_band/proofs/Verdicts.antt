-- The checks of a call that come before the path is read: the setting's, and that of the length of its bytes.
use Prim.Native.Nat.{ℕ}
use mathlib.Core.Path.{◌≡◌, sym, ap, ◌∙◌}
use mathlib.Core.Bool.{true, false}
use mathlib.Core.List.{List}
use lib.ListN.{length}
use Rattle.limits.specs.Refusal as refusal
use Rattle.limits.specs.Refusal.{refuse, ◌then◌}
use Rattle.limits.specs.declared.Verdict.{Verdict}
use Rattle.wire.specs.Read.{entries_of}
use Rattle.setting.specs.declared.Setting.{Setting}
use Rattle.setting.specs.declared.Checked.{Checked}
use Rattle.setting.specs.declared.Checked.TheVariants as checked·
use Rattle.setting.specs.Answer.{checked, checked_verdict}
use Rattle.pen.specs.Polygon.{pen}
use Rattle.checks.specs.Checks.{verdict}
use Rattle.checks.specs.Answer.{answer_of, Offer, given}
use Rattle.band.specs.Band.{top_row, band_offer, band_call}
use Rattle.outcome.specs.Outcome.{host_verdict, coded, told}
use Rattle.outcome.specs.Read.{is_path}
use Rattle.outcome.specs.Fit.{fitted}
use Rattle.outcome.proofs.Verdicts.{setting_refused, bytes_refused, bytes_read}
use Rattle.outcome.proofs.Fits.{refused_code}
use Rattle.host_band.specs.HostBand.{host_band}

-- a call that is refused with place 0, whatever it has to offer
told_refused : (r : refusal.Refusal) (v : Verdict) (o : Offer ℕ) {u : Verdict} {x : ℕ} → x ≡ coded (fitted (answer_of u)) → u ≡ refuse r 0 → v ≡ refuse r 0 →
    record { answer = x; bytes = o.before } ≡ told (given v o)
told_refused r v o e f g = rw (g, refused_code r e f)

module _ (σ : Setting) (path : List ℕ) (columns rows first n stride : ℕ) (b : List ℕ) where
  abbrev top : ℕ
  top = top_row rows first n

  abbrev offer : Offer ℕ
  offer = band_offer (pen σ) (entries_of path) columns first n stride b

  -- x is what `outcome::refused` answers for the check u
  pub setting_first : {u : Verdict} {x : ℕ} → x ≡ coded (fitted (answer_of u)) → u ≡ refuse refusal.setting 0 → checked σ ≡ checked·.Refused →
      record { answer = x; bytes = b } ≡ host_band σ path columns rows first n stride b
  unfolding host_band
  setting_first e f g = told_refused refusal.setting (host_verdict σ path columns rows top) offer e f (setting_refused σ path (verdict (entries_of path) columns rows top) g)

  module _ {s : Setting} (taken : checked σ ≡ checked·.Taken s) where
    pub length_next : {u : Verdict} {x : ℕ} → x ≡ coded (fitted (answer_of u)) → u ≡ refuse refusal.path 0 → is_path (length path) ≡ false →
        record { answer = x; bytes = b } ≡ host_band σ path columns rows first n stride b
    unfolding host_band
    length_next e f g = told_refused refusal.path (host_verdict σ path columns rows top) offer e f (bytes_refused σ path columns rows top taken g)

    -- and what is left to be checked is checked of the coordinates
    pub read_last : is_path (length path) ≡ true → told (band_call σ (entries_of path) columns rows first n stride b) ≡ host_band σ path columns rows first n stride b
    unfolding host_band band_call
    read_last g =
        ap (λ (v : Verdict). told (given v offer))
        (ap (λ (d : Checked). checked_verdict d then verdict (entries_of path) columns rows top) taken ∙ sym (bytes_read σ path columns rows top taken g))
