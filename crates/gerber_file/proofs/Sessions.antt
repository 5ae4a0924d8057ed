-- A host's calls are a session of the machine that reads byte by byte.
use Prim.Native.Nat.{ℕ}
use mathlib.Core.Path.{◌≡◌, sym, ap, ◌∙◌, subst}
use mathlib.Core.Bool.{Bool, cond}
use mathlib.Core.List.{List}
use mathlib.Core.Option.{Option, none, some}
use native.Mathlib.Omega.{arith}
use borrow.Author.Tests.{eq-eqb}
use lib.ListN.{length}
use lib.IntN.{ℤ}
use Rattle.aperture.specs.declared.Table.{Table}
use Rattle.chunks.specs.Machine as chunks·
use Rattle.gerber.specs.declared.Reader.{Reader}
use Rattle.gerber.specs.declared.Given.{Given}
use Rattle.gerber.specs.declared.Given.TheVariants as given·
use Rattle.gerber.specs.Reader.{State, Stroke, Fault, Answered, answer, repeated, step_of, feeds}
use Rattle.gerber_file.specs.Calls.{Handed, Calls, no_call, more, stroke, refused, fault_of}
use Rattle.gerber_file.proofs.Keeps.{CallKeeps, call_keeps}

abbrev pub Call : Type 0
Call = chunks·.Called State Stroke Fault

abbrev pub state_of : Answered → State
state_of a = record { reader = a.fed.reader; path = a.entries }

-- the stroke of an answer that has one, as fault_of is its fault
abbrev stroke_of : Given → Option Stroke
stroke_of given·.More = none
stroke_of (given·.Stroke a first n) = some (record { aperture = a; first = first; length = n })
stroke_of given·.Done = none
stroke_of (given·.Refused n place) = none

-- ---- what was called, from what is answered
pub more_called : (n : ℕ) (c : Call) (a : Answered) → a ≡ answer n c → a.fed.given ≡ given·.More → c ≡ chunks·.more (state_of a)
more_called n (chunks·.more s) a e g = ap (λ (z : Answered). chunks·.more (state_of z)) (sym e)
more_called n (chunks·.gave w s k) a e g = absurd (let f = ap (λ (z : Answered). z.fed.given) e in let z : ◌≡◌ {A = ℕ} 0 1 = cc in omega arith)
more_called n (chunks·.failed f s) a e g = absurd (let f = ap (λ (z : Answered). z.fed.given) e in let z : ◌≡◌ {A = ℕ} 0 1 = cc in omega arith)

pub stroke_called : (n : ℕ) (c : Call) (a : Answered) (w : Stroke) → a ≡ answer n c → a.fed.given ≡ given·.Stroke w.aperture w.first w.length →
    c ≡ chunks·.gave w (state_of a) a.fed.used
stroke_called n (chunks·.more s) a w e g = absurd (let f = ap (λ (z : Answered). z.fed.given) e in let z : ◌≡◌ {A = ℕ} 0 1 = cc in omega arith)
stroke_called n (chunks·.gave v s k) a w e g =
    let f : ◌≡◌ {A = Option Stroke} (some v) (some w) = ap stroke_of (sym (ap (λ (z : Answered). z.fed.given) e) ∙ g) in
    let same : v ≡ w = cc in
    ap (λ (z : Stroke). chunks·.gave z s k) same ∙ ap (λ (z : Answered). chunks·.gave w (state_of z) z.fed.used) (sym e)
stroke_called n (chunks·.failed f s) a w e g = absurd (let f = ap (λ (z : Answered). z.fed.given) e in let z : ◌≡◌ {A = ℕ} 0 1 = cc in omega arith)

pub refused_called : (n : ℕ) (c : Call) (a : Answered) (w : Fault) → a ≡ answer n c → a.fed.given ≡ given·.Refused w.number w.place → c ≡ chunks·.failed w (state_of a)
refused_called n (chunks·.more s) a w e g = absurd (let f = ap (λ (z : Answered). z.fed.given) e in let z : ◌≡◌ {A = ℕ} 0 1 = cc in omega arith)
refused_called n (chunks·.gave v s k) a w e g = absurd (let f = ap (λ (z : Answered). z.fed.given) e in let z : ◌≡◌ {A = ℕ} 0 1 = cc in omega arith)
refused_called n (chunks·.failed v s) a w e g =
    let f : ◌≡◌ {A = Option Fault} (some v) (some w) = ap fault_of (sym (ap (λ (z : Answered). z.fed.given) e) ∙ g) in
    let same : v ≡ w = cc in
    ap (λ (z : Fault). chunks·.failed z s) same ∙ ap (λ (z : Answered). chunks·.failed w (state_of z)) (sym e)

-- a reader that holds no refusal reads the chunk
pub feeds_calls : (r : Reader) (t : Table) (chunk : List ℕ) (p : List ℤ) → r.refusal ≡ 0 →
    feeds r t chunk p ≡ answer (length chunk) (chunks·.call (step_of t) (record { reader = r; path = p }) chunk)
unfolding feeds
feeds_calls r t chunk p h =
    ap
    (λ (b : Bool).
    cond b (answer (length chunk) (chunks·.call (step_of t) (record { reader = r; path = p }) chunk)) (record { fed = repeated r; entries = p }))
    (eq-eqb r.refusal 0 h)

-- ---- calls one after the other
module _ (t : Table) where
  abbrev Session : ℕ → State → List ℕ → List Handed → Option Fault → State → Type 0
  Session = chunks·.Session (step_of t)

  abbrev called : Reader → List ℤ → List ℕ → Call
  called r p chunk = chunks·.call (step_of t) (record { reader = r; path = p }) chunk

  -- the next call starts with no refusal either
  keeps_on : (r : Reader) (p : List ℤ) (chunk : List ℕ) (c : Call) → r.refusal ≡ 0 → called r p chunk ≡ c → CallKeeps c
  keeps_on r p chunk c h e = subst CallKeeps e (call_keeps t (record { reader = r; path = p }) chunk h)

  pub calls_session : {k : ℕ} {r u : Reader} {p q : List ℤ} {l : List ℕ} {given : List Handed} {fault : Option Fault} → Calls t k r p l given fault u q → r.refusal ≡ 0 →
      Session k (record { reader = r; path = p }) l given fault (record { reader = u; path = q })
  calls_session no_call h = chunks·.ends
  calls_session (more {r = r} {p = p} chunk rest g c) h =
      let e = more_called (length chunk) (called r p chunk) (feeds r t chunk p) (feeds_calls r t chunk p h) g in
      chunks·.goes_on chunk rest e (calls_session c (keeps_on r p chunk _ h e))
  calls_session (stroke {r = r} {p = p} {a = a} {first = first} {n = n} chunk rest g c) h =
      let w : Stroke = record { aperture = a; first = first; length = n } in
      let e = stroke_called (length chunk) (called r p chunk) (feeds r t chunk p) w (feeds_calls r t chunk p h) g in
      chunks·.hands chunk rest e (calls_session c (keeps_on r p chunk _ h e))
  calls_session (refused {r = r} {p = p} {n = n} {place = place} chunk rest g) h =
      chunks·.breaks chunk rest
      (refused_called (length chunk) (called r p chunk) (feeds r t chunk p) (record { number = n; place = place }) (feeds_calls r t chunk p h) g)
