-- The claims of specs/Theorems.antt, each under its name there.
use Prim.Native.Nat.{ℕ}
use mathlib.Core.Path.{◌≡◌, refl, sym, ap, ◌∙◌}
use mathlib.Core.Bool.{Bool, true, false}
use mathlib.Core.List.{List}
use lib.Dec.{leb}
use lib.ListN.{length}
use Rattle.limits.specs.declared.Verdict.{Verdict}
use Rattle.limits.specs.declared.Verdict.TheVariants.{Passed, Refused}
use Rattle.stroke.specs.Runs as stroke
use Rattle.checks.specs.Answer.{done, Result, given}
use Rattle.row.specs.Answer.{runs_offer}
use Rattle.records.specs.declared.Run.{Run}
use Rattle.records.specs.Records.{numbers}
use Rattle.records.specs.Theorems.{SameAsPlain, SpeltOut, records_offer, spelt}
use Rattle.records.proofs.Numbers.{listed_numbers}
use Rattle.records.proofs.Cases.{call_checks, call_runs, call_given}
use Rattle.records.proofs.Plain.{half, records_given}

-- what a records call leaves, as the plain call would leave it
abbrev as_numbers : Result Run → Result ℕ
as_numbers r = record { answer = r.answer; list = numbers r.list }

given_numbers : (v : Verdict) (rs : List stroke.Run) (o : List Run) → as_numbers (given v (records_offer rs o)) ≡ given v (runs_offer rs (numbers o))
given_numbers (Refused n place) rs o = refl
given_numbers Passed rs o = go (leb (length rs) (length o)) refl
  where
    go : (b : Bool) → leb (length rs) (length o) ≡ b → as_numbers (given Passed (records_offer rs o)) ≡ given Passed (runs_offer rs (numbers o))
    go true e = rw (half o, e) (ap (λ (l : List ℕ). record { answer = done (length rs); list = l }) (sym (listed_numbers rs o)))
    go false e = rw (half o, e)

pub same_as_plain : SameAsPlain
same_as_plain t n path columns rows j before after answer e =
    ap as_numbers (e ∙ records_given t n path columns rows j before)
    ∙ given_numbers (call_checks t n path columns rows j) (call_runs t n path columns rows j) before
    ∙ sym (call_given t n path columns rows j (numbers before))

pub spelt_out : SpeltOut
unfolding spelt
spelt_out t n path columns rows j o = records_given t n path columns rows j o
