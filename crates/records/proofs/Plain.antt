-- The records written from the plain call's answer, over a list of its own, are those of the call over the numbers of the records themselves.
use Prim.Native.Nat.{ℕ, ◌*◌, ◌/◌, ◌≤◌}
use native.Mathlib.Omega.{arith}
use mathlib.Core.Path.{◌≡◌, refl, sym, ap, subst, ◌∙◌}
use mathlib.Core.Bool.{Bool, true, false}
use mathlib.Core.List.{List, ◌++◌, append_assoc}
use borrow.Author.Tests.{le-leb, lt-leb, leb-true, leb-false}
use lib.Dec.{leb}
use lib.ListN.{length, take, drop, take-append-drop}
use lib.Seq.{length-take-le}
use lib.IntN.{ℤ}
use Rattle.limits.specs.Sizes.{entries_max}
use Rattle.limits.specs.Refusal.{room, refuse}
use Rattle.limits.specs.declared.Verdict.{Verdict}
use Rattle.limits.specs.declared.Verdict.TheVariants.{Passed, Refused}
use Rattle.stroke.specs.Runs as stroke
use Rattle.aperture.specs.declared.Table.{Table}
use Rattle.checks.specs.declared.Answer.{Answer}
use Rattle.checks.specs.Answer.{done, answer_of, Result, settled, given}
use Rattle.row.specs.Answer.{flat, listed, runs_offer}
use Rattle.row.specs.Calls.{row_call}
use Rattle.records.specs.declared.Run.{Run}
use Rattle.records.specs.Records.{runs_max, numbers, pairs, as_records, records_call, entries, written}
use Rattle.records.specs.Theorems.{records_of, records_offer}
use Rattle.records.proofs.Room.{entries_in, entries_enough, entries_short}
use Rattle.records.proofs.Numbers.{length_numbers, pairs_numbers, listed_numbers, first_records}
use Rattle.records.proofs.Cases.{call_checks, call_runs, call_given, call_few}

-- ---- the call over the numbers of the records
-- half of the numbers of n records are n
pub half : (o : List Run) → length (numbers o) / 2 ≡ length o
half o = let e = length_numbers o in omega (arith, e)

refused_records : (n place : ℕ) (o : List Run) → as_records (record { answer = answer_of (Refused n place); list = numbers o }) ≡ record { answer = answer_of (Refused n place); list = o }
refused_records n place o = ap (λ (l : List Run). record { answer = answer_of (Refused n place); list = l }) (pairs_numbers o)

drawn_records : (rs : List stroke.Run) (o : List Run) → as_records (record { answer = done (length rs); list = listed rs (numbers o) }) ≡ settled Passed (records_offer rs o)
drawn_records rs o = ap (λ (l : List Run). record { answer = done (length rs); list = l }) (ap pairs (listed_numbers rs o) ∙ pairs_numbers (records_of rs ++ drop (length rs) o))

-- a call whose checks answer v has room for its runs as numbers exactly where it has room for them as records
pub given_records : (v : Verdict) (rs : List stroke.Run) (o : List Run) → as_records (given v (runs_offer rs (numbers o))) ≡ given v (records_offer rs o)
given_records (Refused n place) rs o = refused_records n place o
given_records Passed rs o = go (leb (length rs) (length o)) refl
  where
    go : (b : Bool) → leb (length rs) (length o) ≡ b → as_records (given Passed (runs_offer rs (numbers o))) ≡ given Passed (records_offer rs o)
    go true e = rw (half o, e) (drawn_records rs o)
    go false e = rw (half o, e) (refused_records 7 0 o)

-- ---- the records written
-- what `write` is asked for, where the plain call answered a and left l, and what it leaves
pub record Fills (o : List Run) (l : List ℕ) (a : Answer) (r : Result Run) : Type 0 where
  pub list : 2 * a.count ≤ entries_max
  pub room : a.count ≤ length o
  pub same : record { answer = a; list = written a.count l o } ≡ r

-- a refusal counts nothing, so nothing is written
refused_fills : (n place : ℕ) (o : List Run) (l : List ℕ) {a : Answer} → a ≡ answer_of (Refused n place) → Fills o l a (record { answer = answer_of (Refused n place); list = o })
refused_fills n place o l e =
    subst (λ (a : Answer). Fills o l a (record { answer = answer_of (Refused n place); list = o })) (sym e) (record { list = omega arith; room = omega arith; same = refl })

-- the first records of a list that begins with the runs are the runs
drawn_fills : (rs : List stroke.Run) (o : List Run) (l m : List ℕ) {a : Answer} → length rs ≤ runs_max → length rs ≤ length o → a ≡ done (length rs) → l ≡ flat rs ++ m →
    Fills o l a (settled Passed (records_offer rs o))
drawn_fills rs o l m few h e f =
    subst (λ (a : Answer). Fills o l a (settled Passed (records_offer rs o))) (sym e) (record {
      list = omega (arith, few);
      room = h;
      same =
          ap (λ (p : List Run). record { answer = done (length rs); list = p ++ drop (length rs) o })
          (ap (λ (k : List ℕ). take (length rs) (pairs k)) f ∙ first_records rs m);
    })

-- a front that begins with the runs makes the whole list begin with them
begins : (rs : List stroke.Run) (n : ℕ) (l m : List ℕ) → take n l ≡ flat rs ++ m → l ≡ flat rs ++ (m ++ drop n l)
begins rs n l m e = sym (take-append-drop n l) ∙ ap (λ (k : List ℕ). k ++ drop n l) e ∙ append_assoc (flat rs) m (drop n l)

-- the front has room for the runs where the records have
module _ (rs : List stroke.Run) (o : List Run) (l₀ l : List ℕ) (a : Answer) (few : length rs ≤ runs_max) (long : length l₀ ≡ entries_max) where
  front : List ℕ
  front = take (entries (length o)) l₀

  front_long : length front ≡ entries (length o)
  unfolding front
  front_long = length-take-le (entries (length o)) l₀ (let h = entries_in (length o) in omega (arith, h))

  drawn_front : record { answer = a; list = take (entries (length o)) l } ≡ given Passed (runs_offer rs (take (entries (length o)) l₀)) → Fills o l a (given Passed (records_offer rs o))
  unfolding front
  drawn_front e = go (leb (length rs) (length o)) refl
    where
      go : (b : Bool) → leb (length rs) (length o) ≡ b → Fills o l a (given Passed (records_offer rs o))
      go true q =
          let h = leb-true (length rs) (length o) q in
          let fits : given Passed (runs_offer rs front) ≡ settled Passed (runs_offer rs front) =
          rw (front_long, le-leb (length rs) (entries (length o) / 2) (entries_enough (length rs) (length o) few h)) in
          rw q (drawn_fills rs o l _ few h (ap (λ (r : Result ℕ). r.answer) (e ∙ fits)) (begins rs (entries (length o)) l _ (ap (λ (r : Result ℕ). r.list) (e ∙ fits))))
      go false q =
          let h = leb-false (length rs) (length o) q in
          let exceeds : given Passed (runs_offer rs front) ≡ settled (refuse room 0) (runs_offer rs front) =
          rw (front_long, lt-leb (length rs) (entries (length o) / 2) (entries_short (length rs) (length o) few h)) in
          rw q (refused_fills 7 0 o l (ap (λ (r : Result ℕ). r.answer) (e ∙ exceeds)))

-- what `flat_runs` promises is what `write` needs, whatever the checks answer
given_fills : (v : Verdict) (rs : List stroke.Run) (o : List Run) (l₀ l : List ℕ) (a : Answer) → (v ≡ Passed → length rs ≤ runs_max) → length l₀ ≡ entries_max →
    record { answer = a; list = take (entries (length o)) l } ≡ given v (runs_offer rs (take (entries (length o)) l₀)) → Fills o l a (given v (records_offer rs o))
given_fills (Refused n place) rs o l₀ l a few long e = refused_fills n place o l (ap (λ (r : Result ℕ). r.answer) e)
given_fills Passed rs o l₀ l a few long e = drawn_front rs o l₀ l a (few refl) long e

module _ (t : Table) (n : ℕ) (path : List ℤ) (columns rows j : ℕ) (o : List Run) where
  pub records_given : records_call t n path columns rows j o ≡ given (call_checks t n path columns rows j) (records_offer (call_runs t n path columns rows j) o)
  unfolding records_call
  records_given = ap as_records (call_given t n path columns rows j (numbers o)) ∙ given_records (call_checks t n path columns rows j) (call_runs t n path columns rows j) o

  pub fills : (l₀ l : List ℕ) (a : Answer) → length l₀ ≡ entries_max → record { answer = a; list = take (entries (length o)) l } ≡ row_call t n path columns rows j (take (entries (length o)) l₀) →
      Fills o l a (records_call t n path columns rows j o)
  fills l₀ l a long e =
      subst (Fills o l a) (sym records_given)
      (given_fills (call_checks t n path columns rows j) (call_runs t n path columns rows j) o l₀ l a (call_few t n path columns rows j) long
      (e ∙ call_given t n path columns rows j (take (entries (length o)) l₀)))
