-- RefusedForGood, EndRefusedForGood and NoUnit. A reader that holds a refusal repeats it, and whatever refuses leaves such a reader.
use Prim.Native.Nat.{ℕ, ◌≤◌}
use mathlib.Core.Path.{◌≡◌, refl, sym, ap, ◌∙◌, subst}
use mathlib.Core.Bool.{Bool, true, false, cond}
use mathlib.Core.List.{List}
use native.Mathlib.Omega.{arith}
use borrow.Author.Tests.{eqb-true, ne_eqb}
use lib.Dec.{eqb}
use lib.ListN.{length}
use lib.IntN.{ℤ}
use Rattle.limits.specs.Refusal.{number, setting, command}
use Rattle.aperture.specs.declared.Table.{Table}
use Rattle.units.specs.Units.{is_unit}
use Rattle.scan.specs.Scanner.{is_ended}
use Rattle.chunks.specs.Machine as chunks·
use Rattle.gerber.specs.declared.Reader.{Reader}
use Rattle.gerber.specs.declared.Given.TheVariants as given·
use Rattle.gerber.specs.declared.Fed.{Fed}
use Rattle.gerber.specs.Reader.{Answered, answer, repeated, step_of, feeds, finished_on, finished, latched, fresh, started}
use Rattle.gerber_file.specs.Theorems.{Latched, RefusedForGood, EndRefusedForGood, NoUnit}
use Rattle.gerber_file.proofs.Keeps.{CallKeeps, Held, call_keeps}
use Rattle.gerber_file.proofs.Sessions.{state_of, refused_called, feeds_calls}

-- ---- a reader that holds a refusal
repeated_at : (r : Reader) (n place : ℕ) → r.refusal ≡ n → r.place ≡ place → repeated r ≡ record { reader = r; given = given·.Refused n place; used = 0 }
repeated_at r n place e f =
    ap (λ (z : ℕ). record { reader = r; given = given·.Refused z r.place; used = 0 }) e ∙ ap (λ (z : ℕ). record { reader = r; given = given·.Refused n z; used = 0 }) f

feeds_repeats : (r : Reader) (t : Table) (chunk : List ℕ) (p : List ℤ) → eqb r.refusal 0 ≡ false → feeds r t chunk p ≡ record { fed = repeated r; entries = p }
unfolding feeds
feeds_repeats r t chunk p e =
    ap
    (λ (b : Bool).
    cond b (answer (length chunk) (chunks·.call (step_of t) (record { reader = r; path = p }) chunk)) (record { fed = repeated r; entries = p }))
    e

finished_repeats : (r : Reader) → eqb r.refusal 0 ≡ false → finished r ≡ repeated r
unfolding finished
finished_repeats r e = ap (λ (b : Bool). cond b (finished_on r) (repeated r)) e

holding : (r : Reader) (n place : ℕ) → eqb r.refusal 0 ≡ false → r.refusal ≡ n → r.place ≡ place → Latched r n place
holding r n place h e f =
    record {
      fed = λ t chunk p. feeds_repeats r t chunk p h ∙ ap (λ (z : Fed). record { fed = z; entries = p }) (repeated_at r n place e f);
      finished = finished_repeats r h ∙ repeated_at r n place e f;
    }

-- its number is not 0
not_zero : (r : Reader) (n : ℕ) → r.refusal ≡ n → 1 ≤ n → eqb r.refusal 0 ≡ false
not_zero r n e h = ne_eqb r.refusal 0 (λ k. absurd (omega (arith, e, h, k)))

-- what a reader that repeats answers is its refusal
same_refusal : (r : Reader) (n place : ℕ) → given·.Refused r.refusal r.place ≡ given·.Refused n place → (r.refusal ≡ n) × (r.place ≡ place)
same_refusal r n place e = (cc, cc)

-- ---- a call that is refused
called_latched : (a : Answered) (n place : ℕ) → Held (record { number = n; place = place }) (state_of a) → Latched a.fed.reader n place
called_latched a n place h = holding a.fed.reader n place (not_zero a.fed.reader n h.refusal h.not_zero) h.refusal h.place

pub refused_for_good : RefusedForGood
refused_for_good r t chunk p n place g = go (eqb r.refusal 0) refl
  where
    repeats : eqb r.refusal 0 ≡ false → Latched (feeds r t chunk p).fed.reader n place
    repeats e =
        let f = feeds_repeats r t chunk p e in
        let same = same_refusal r n place (sym (ap (λ (z : Answered). z.fed.given) f) ∙ g) in
        subst (λ (z : Answered). Latched z.fed.reader n place) (sym f) (holding r n place e same.0 same.1)

    go : (b : Bool) → eqb r.refusal 0 ≡ b → Latched (feeds r t chunk p).fed.reader n place
    go true e =
        let h = eqb-true r.refusal 0 e in
        let c = chunks·.call (step_of t) (record { reader = r; path = p }) chunk in
        let f = refused_called (length chunk) c (feeds r t chunk p) (record { number = n; place = place }) (feeds_calls r t chunk p h) g in
        called_latched (feeds r t chunk p) n place (subst CallKeeps f (call_keeps t (record { reader = r; path = p }) chunk h))
    go false e = repeats e

-- ---- the end of the file
pub end_refused_for_good : EndRefusedForGood
unfolding finished
end_refused_for_good r n place g = go (eqb r.refusal 0) refl (is_ended r.scanner.mode) g
  where
    end : Reader
    end = latched r (number command) r.scanner.at

    go : (b : Bool) → eqb r.refusal 0 ≡ b → (c : Bool) →
        (cond b (cond c (record { reader = r; given = given·.Done; used = 0 }) (repeated end)) (repeated r)).given ≡ given·.Refused n place →
        Latched (cond b (cond c (record { reader = r; given = given·.Done; used = 0 }) (repeated end)) (repeated r)).reader n place
    go true e true g = absurd (let z : ◌≡◌ {A = ℕ} 0 1 = cc in omega arith)
    go true e false g = let same = same_refusal end n place g in holding end n place refl same.0 same.1
    go false e true g = let same = same_refusal r n place g in holding r n place e same.0 same.1
    go false e false g = let same = same_refusal r n place g in holding r n place e same.0 same.1

-- ---- no unit
pub no_unit : NoUnit
unfolding started
no_unit unit h = go (is_unit unit) h
  where
    go : (b : Bool) → ¬ (b ≡ true) → Latched (cond b (fresh unit) (latched (fresh unit) (number setting) 0)) 1 0
    go true h = absurd (h refl)
    go false h = holding (latched (fresh unit) (number setting) 0) 1 0 refl refl refl
