-- A chunk, command by command: the scanner runs to a command's end, and what is left of the chunk is read after what the command gives.
use Prim.Native.Nat.{ℕ, suc, ◌+◌, ◌≤◌, ◌<◌}
use native.Mathlib.Omega.{arith}
use mathlib.Core.Path.{◌≡◌, refl, sym, ap, ◌∙◌}
use mathlib.Core.Bool.{Bool, true, false}
use mathlib.Core.List.{List, [], ◌∷◌}
use lib.ListN.{length, get_or, drop, drop_of_length-le, length-drop}
use lib.Seq.{drop-cons, drop-drop}
use lib.IntN.{ℤ}
use Rattle.integers.proofs.Tests.{clash}
use Rattle.aperture.specs.declared.Table.{Table}
use Rattle.scan.specs.declared.Mode.{Mode}
use Rattle.scan.specs.declared.Mode.TheVariants.{Bad, Outside, Whole, Number, Inside}
use Rattle.scan.specs.declared.Scanned.{Scanned}
use Rattle.scan.specs.Scanner.{stepped, is_stop, later, scanned, scanned_from}
use Rattle.scan.proofs.Scans.{scanned_none, scanned_stop, scanned_on, scanned_end, scanned_some}
use Rattle.chunks.specs.Machine.{goes, gives, fails, Called, more, gave, failed, one_more, call}
use Rattle.gerber.specs.declared.Reader.{Reader}
use Rattle.gerber.specs.declared.Given.TheVariants.{More}
use Rattle.gerber.specs.Reader.{State, Stroke, Fault, Step, Told, Answered, with_scanner, acted_by, acted, step_of, shown, is_end, used_of, answer}

abbrev Call : Type 0
Call = Called State Stroke Fault

-- i bytes have been used before
abbrev pub counting : ℕ → Call → Call
counting i (more s) = more s
counting i (gave e s n) = gave e s (i + n)
counting i (failed f s) = failed f s

gave_at : (e : Stroke) (s : State) → {m n : ℕ} → m ≡ n → ◌≡◌ {A = Call} (gave e s m) (gave e s n)
gave_at e s h = ap (λ (n : ℕ). gave e s n) h

pub counting_none : (c : Call) → counting 0 c ≡ c
counting_none (more s) = refl
counting_none (gave e s n) = gave_at e s (omega arith)
counting_none (failed f s) = refl

counting_one : (c : Call) → one_more c ≡ counting 1 c
counting_one (more s) = refl
counting_one (gave e s n) = gave_at e s (omega arith)
counting_one (failed f s) = refl

counting_both : (i k : ℕ) (c : Call) → counting i (counting k c) ≡ counting (i + k) c
counting_both i k (more s) = refl
counting_both i k (gave e s n) = gave_at e s (omega arith)
counting_both i k (failed f s) = refl

-- ---- after a command that was read with n bytes, l being left
abbrev after : Table → ℕ → List ℕ → Step → Call
after t n l (goes s) = counting n (call (step_of t) s l)
after t n l (gives e s) = gave e s n
after t n l (fails f s) = failed f s

counting_after : (t : Table) (i n : ℕ) (l : List ℕ) (x : Step) → counting i (after t n l x) ≡ after t (i + n) l x
counting_after t i n l (goes s) = counting_both i n (call (step_of t) s l)
counting_after t i n l (gives e s) = refl
counting_after t i n l (fails f s) = refl

-- one byte
call_cons : (t : Table) (s : State) (b : ℕ) (l : List ℕ) → call (step_of t) s (b ∷ l) ≡ after t 1 l (step_of t s b)
unfolding call
call_cons t s b l = go (step_of t s b)
  where
    go : (x : Step) → ◌≡◌ {A = Call} (elim x as (λ _. Call) [ goes u ↦ one_more (call (step_of t) u l) | gives e u ↦ gave e u 1 | fails f u ↦ failed f u ]) (after t 1 l x)
    go (goes u) = counting_one (call (step_of t) u l)
    go (gives e u) = refl
    go (fails f u) = refl

-- within a command nothing is asked for
goes_by : (m : Mode) (t : Table) (s : State) → is_stop m ≡ false → acted_by m t s ≡ goes s
goes_by Bad t s e = absurd (clash refl e)
goes_by (Outside g) t s e = refl
goes_by (Whole c) t s e = absurd (clash refl e)
goes_by (Number a sign n v) t s e = refl
goes_by (Inside p) t s e = refl

-- ---- to the end of a command: where the scanner has stopped, and what is then asked for
abbrev stopped : Table → Reader → List ℤ → Scanned → Step
stopped t r p q = acted t (record { reader = with_scanner r q.scanner; path = p })

abbrev by : Table → Reader → List ℤ → List ℕ → Scanned → Call
by t r p l q = after t q.end (drop q.end l) (stopped t r p q)

drop_one : (n b : ℕ) (l : List ℕ) → drop n l ≡ drop (1 + n) (b ∷ l)
drop_one n b l = let h : suc n ≡ 1 + n = omega arith in ap (λ (k : ℕ). drop k (b ∷ l)) h

module _ (t : Table) (r : Reader) (p : List ℤ) (b : ℕ) where
  abbrev was : State
  was = record { reader = r; path = p }

  -- a byte later
  abbrev one : State
  one = record { reader = with_scanner r (stepped r.scanner b); path = p }

  step_at_lem : step_of t was b ≡ acted t one
  unfolding step_of
  step_at_lem = refl

  goes_at : is_stop (stepped r.scanner b).mode ≡ false → acted t one ≡ goes one
  unfolding acted
  goes_at e = goes_by (stepped r.scanner b).mode t one e

  stop_run : (l : List ℕ) → is_stop (stepped r.scanner b).mode ≡ true → call (step_of t) was (b ∷ l) ≡ by t r p (b ∷ l) (scanned r.scanner (b ∷ l))
  stop_run l e = call_cons t was b l ∙ ap (after t 1 l) step_at_lem ∙ sym (ap (by t r p (b ∷ l)) (scanned_stop r.scanner b l e))

  on_call : (l : List ℕ) → is_stop (stepped r.scanner b).mode ≡ false → call (step_of t) was (b ∷ l) ≡ counting 1 (call (step_of t) one l)
  on_call l e = call_cons t was b l ∙ ap (after t 1 l) (step_at_lem ∙ goes_at e)

  last_run : is_stop (stepped r.scanner b).mode ≡ false → call (step_of t) was (b ∷ []) ≡ by t r p (b ∷ []) (scanned r.scanner (b ∷ []))
  last_run e =
      on_call [] e ∙ sym (ap (after t 1 []) (goes_at e)) ∙
      sym (ap (by t r p (b ∷ [])) (scanned_on r.scanner b [] e ∙ ap (later 1) (scanned_none (stepped r.scanner b))))

  more_run : (l : List ℕ) → call (step_of t) one l ≡ by t one.reader p l (scanned one.reader.scanner l) → is_stop (stepped r.scanner b).mode ≡ false →
      call (step_of t) was (b ∷ l) ≡ by t r p (b ∷ l) (scanned r.scanner (b ∷ l))
  more_run l h e =
      let q = scanned (stepped r.scanner b) l in
      let x = stopped t r p q in
      on_call l e ∙ ap (counting 1) h ∙ counting_after t 1 q.end (drop q.end l) x ∙ ap (λ (m : List ℕ). after t (1 + q.end) m x) (drop_one q.end b l) ∙
      sym (ap (by t r p (b ∷ l)) (scanned_on r.scanner b l e))

-- by the cases of the first byte: it ends a command, or the rest of the chunk does, or nothing
run_call : (t : Table) (r : Reader) (p : List ℤ) (b : ℕ) (l : List ℕ) →
    call (step_of t) (record { reader = r; path = p }) (b ∷ l) ≡ by t r p (b ∷ l) (scanned r.scanner (b ∷ l))
run_call t r p b [] = go (is_stop (stepped r.scanner b).mode) refl
  where
    go : (stop : Bool) → is_stop (stepped r.scanner b).mode ≡ stop →
        call (step_of t) (record { reader = r; path = p }) (b ∷ []) ≡ by t r p (b ∷ []) (scanned r.scanner (b ∷ []))
    go true e = stop_run t r p b [] e
    go false e = last_run t r p b e
run_call t r p b (a ∷ l) = go (run_call t (with_scanner r (stepped r.scanner b)) p a l) (is_stop (stepped r.scanner b).mode) refl
  where
    go : call (step_of t) (one t r p b) (a ∷ l) ≡ by t (with_scanner r (stepped r.scanner b)) p (a ∷ l) (scanned (stepped r.scanner b) (a ∷ l)) → (stop : Bool) →
        is_stop (stepped r.scanner b).mode ≡ stop → call (step_of t) (record { reader = r; path = p }) (b ∷ a ∷ l) ≡ by t r p (b ∷ a ∷ l) (scanned r.scanner (b ∷ a ∷ l))
    go h true e = stop_run t r p b (a ∷ l) e
    go h false e = more_run t r p b (a ∷ l) h e

-- ---- what a command does, as the code answers it
told_on : (x : Step) {o : Told} → o ≡ shown x → is_end o.told.given ≡ false → x ≡ goes (record { reader = o.told.reader; path = o.entries })
told_on (goes s) f g = ap (λ (o : Told). goes (record { reader = o.told.reader; path = o.entries })) (sym f)
told_on (gives e s) f g = absurd (clash (ap (λ (o : Told). is_end o.told.given) f) g)
told_on (fails e s) f g = absurd (clash (ap (λ (o : Told). is_end o.told.given) f) g)

abbrev pub fed_by : Told → ℕ → Answered
fed_by o n = record { fed = record { reader = o.told.reader; given = o.told.given; used = used_of o.told.given n }; entries = o.entries }

told_end : (t : Table) (x : Step) {o : Told} → o ≡ shown x → is_end o.told.given ≡ true → (n k : ℕ) (l : List ℕ) → fed_by o k ≡ answer n (after t k l x)
told_end t (goes s) f g n k l = absurd (clash g (ap (λ (o : Told). is_end o.told.given) f))
told_end t (gives e s) f g n k l = ap (λ (o : Told). fed_by o k) f
told_end t (fails e s) f g n k l = ap (λ (o : Told). fed_by o k) f

-- ---- from an index on, as the loop of `feed_on` has it: q is what the scanner gives, o what the command does
module _ (t : Table) (r : Reader) (p : List ℤ) (l : List ℕ) (i : ℕ) (h : i < length l) {q : Scanned} (e : q ≡ scanned_from r.scanner l i) where
  -- what is left of the chunk
  here : counting i (call (step_of t) (record { reader = r; path = p }) (drop i l)) ≡ by t r p l q
  here =
      let b = get_or l i 0 in
      let m = drop (suc i) l in
      let f = drop-cons l i 0 h in
      let w = scanned r.scanner (drop i l) in
      let x = stopped t r p w in
      ap (counting i) (ap (call (step_of t) (record { reader = r; path = p })) f ∙ run_call t r p b m ∙ sym (ap (λ (k : List ℕ). by t r p k (scanned r.scanner k)) f)) ∙
      counting_after t i w.end (drop w.end (drop i l)) x ∙ ap (λ (k : List ℕ). after t (i + w.end) k x) (drop-drop w.end i l) ∙ sym (ap (by t r p l) e)

  -- a byte at least, and not more than there are
  pub some_read : i < q.end
  some_read = rw e (omega (arith, some_of (drop i l) (drop-cons l i 0 h)))
    where
      some_of : (k : List ℕ) → k ≡ get_or l i 0 ∷ drop (suc i) l → 1 ≤ (scanned r.scanner k).end
      some_of k f = rw f (scanned_some r.scanner (get_or l i 0) (drop (suc i) l))

  pub all_read : q.end ≤ length l
  all_read = rw e (omega (arith, scanned_end r.scanner (drop i l), length-drop i l))

  -- and then what the command does, as the code answers it: the rest is read, or the call has ended
  module _ {o : Told} (f : o ≡ shown (stopped t r p q)) where
    pub again : is_end o.told.given ≡ false →
        counting q.end (call (step_of t) (record { reader = o.told.reader; path = o.entries }) (drop q.end l)) ≡
        counting i (call (step_of t) (record { reader = r; path = p }) (drop i l))
    again g = sym (here ∙ ap (after t q.end (drop q.end l)) (told_on (stopped t r p q) f g))

    pub ended : is_end o.told.given ≡ true → (n : ℕ) → fed_by o q.end ≡ answer n (counting i (call (step_of t) (record { reader = r; path = p }) (drop i l)))
    ended g n = told_end t (stopped t r p q) f g n q.end (drop q.end l) ∙ sym (ap (answer n) here)

-- nothing is left
pub used_up : (t : Table) (r : Reader) (p : List ℤ) (l : List ℕ) (i : ℕ) → i ≤ length l → length l ≤ i →
    ◌≡◌ {A = Answered} (record { fed = record { reader = r; given = More; used = i }; entries = p })
    (answer (length l) (counting i (call (step_of t) (record { reader = r; path = p }) (drop i l))))
unfolding call
used_up t r p l i h k =
    let e : i ≡ length l = omega arith in
    ap (λ (n : ℕ). answer n (more (record { reader = r; path = p }))) e ∙
    sym (ap (λ (m : List ℕ). answer (length l) (counting i (call (step_of t) (record { reader = r; path = p }) m))) (drop_of_length-le l {i = i} k))
