-- A line in both readings: its tests are the same, and so is what it writes.
use Prim.Native.Nat.{ℕ, ◌+◌, ◌-◌, ◌*◌, ◌≤◌}
use native.Mathlib.Omega.{arith}
use mathlib.Core.Path.{◌≡◌, refl, sym, ap, ◌∙◌}
use mathlib.Core.Bool.{Bool, true, false, not, cond}
use mathlib.Core.List.{List, [], ◌∷◌, ◌++◌, append-nil, append_assoc}
use mathlib.Core.Option.{some}
use lib.Dec.{leb, ltb}
use lib.ListN.{length, take, length-append}
use lib.IntN.{ℤ}
use borrow.Author.Tests.{leb-true, leb-false, ltb-true, le-leb, lt-ltb, le-ltb}
use Rattle.integers.proofs.Tests.{true_and, false_and, same_test}
use Rattle.limits.specs.Sizes.{entries_max}
use Rattle.trace.specs.declared.Trace.{Trace}
use Rattle.trace.specs.Trace.{is_open, adds, is_longer, is_fit, put2, Lined, lined_by, lined}
use Rattle.gerber.specs.Reader.{State, with_trace}
use Rattle.plane.specs.Point.{Pt}
use Rattle.gerber_file.specs.Strokes.{Sheet, twice, joined, flat}
use Rattle.gerber_file.proofs.Entries.{flat_append, length_put2, take_put2}
use Rattle.gerber_file.proofs.Sim.{Sim}

-- there is too little room exactly where the test of room fails
not_fit : (a b : ℕ) → ltb b a ≡ not (leb a b)
not_fit a b = go (leb a b) refl
  where
    go : (t : Bool) → leb a b ≡ t → ltb b a ≡ not t
    go true e = le-ltb b a (leb-true a b e)
    go false e = lt-ltb b a (leb-false a b e)

module _ {unit space : ℕ} {done : List ℤ} {s : State} {q : Sheet} (both : Sim unit space done s q) where
  abbrev now : Trace
  now = s.reader.trace

  -- a stroke is open exactly where the second reading has points of one
  pub none_open : q.begun ≡ [] → is_open now ≡ false
  none_open e = le-ltb now.first now.filled (omega (arith, both.begins, both.filled, ap length e))

  pub one_open : {p : Pt} {ps : List Pt} → q.begun ≡ p ∷ ps → is_open now ≡ true
  one_open e = lt-ltb now.first now.filled (omega (arith, both.begins, both.filled, ap length e))

  -- ---- a line: the tests
  module _ (from to : Pt) where
    -- 4,097 points are 8,194 entries
    pub longer_same : (ps : List Pt) → q.begun ≡ ps → ltb 4096 (length (joined ps from to)) ≡ is_longer now
    longer_same [] e = false_and (is_open now) _ (none_open e)
    longer_same (p ∷ ps) e =
        let n = now.filled - now.first + 2 in
        let k = length ((p ∷ ps) ++ (to ∷ [])) in
        let h : n ≡ 2 * k = omega (arith, both.begins, both.filled, ap length e, length-append (p ∷ ps) (to ∷ [])) in
        same_test (ltb 4096 k) (ltb entries_max n) (λ t. lt-ltb entries_max n (omega (arith, ltb-true 4096 k t))) (λ t. lt-ltb 4096 k (omega (arith, ltb-true entries_max n t))) ∙
        true_and (is_open now) (ltb entries_max n) (one_open e)

    -- the entries needed with the line, and whether they are there
    adds_same : (ps : List Pt) → q.begun ≡ ps → now.filled + adds now ≡ q.entries + twice (joined ps from to)
    adds_same [] e = omega (arith, both.entries, both.filled, ap length e, ap (λ (t : Bool). cond {A = ℕ} t 2 4) (none_open e))
    adds_same (p ∷ ps) e =
        omega (arith, both.entries, both.filled, ap length e, length-append (p ∷ ps) (to ∷ []), ap (λ (t : Bool). cond {A = ℕ} t 2 4) (one_open e))

    pub room_same : ltb space (q.entries + twice (joined q.begun from to)) ≡ not (is_fit now (length s.path))
    room_same = rw (← both.room, ← (adds_same q.begun refl)) (not_fit (now.filled + adds now) (length s.path))

    -- ---- a line: what is written
    module _ (here : (now.x ≡ from.x) × (now.y ≡ from.y)) (fits : now.filled + adds now ≤ length s.path) where
      abbrev farther : Lined → State
      farther l = record { reader = with_trace s.reader s.reader.aperture l.trace; path = l.entries }

      abbrev Longer : List Pt → Lined → Type 0
      Longer ps l = Sim unit space done (farther l) (record { point = some to; aperture = q.aperture; begun = joined ps from to; entries = q.entries })

      -- the point goes behind the open stroke's
      written_on : {p : Pt} {ps : List Pt} → q.begun ≡ p ∷ ps → now.filled + 2 ≤ length s.path →
          take (now.filled + 2) (put2 s.path now.filled to.x to.y) ≡ done ++ flat (p ∷ ps ++ (to ∷ []))
      unfolding flat
      written_on {p} {ps} e h =
          take_put2 s.path now.filled to.x to.y h ∙
          ap (λ (l : List ℤ). l ++ (to.x ∷ to.y ∷ [])) (both.holds ∙ ap (λ (l : List Pt). done ++ flat l) e) ∙
          append_assoc done (flat (p ∷ ps)) (to.x ∷ to.y ∷ []) ∙
          ap (λ (l : List ℤ). done ++ l) (sym (flat_append (p ∷ ps) (to ∷ [])))

      goes_on : {p : Pt} {ps : List Pt} → q.begun ≡ p ∷ ps → Longer (p ∷ ps) (lined_by true now to.x to.y s.path)
      goes_on {p} {ps} e =
          let h : now.filled + 2 ≤ length s.path = omega (arith, ap (λ (t : Bool). cond {A = ℕ} t 2 4) (one_open e)) in record {
            same_unit = both.same_unit;
            room = length_put2 s.path now.filled to.x to.y ∙ both.room;
            begins = both.begins;
            entries = both.entries;
            filled = omega (arith, both.filled, ap length e, length-append (p ∷ ps) (to ∷ []));
            fits = omega (arith, both.room);
            holds = written_on e h;
            point = (refl, (refl, refl));
            aperture = both.aperture;
          }

      -- or behind the current one, where none is open
      abbrev begun_path : List ℤ
      begun_path = put2 s.path now.filled now.x now.y

      written_first : q.begun ≡ [] → now.filled + 2 ≤ length s.path → take (now.filled + 2) begun_path ≡ done ++ (from.x ∷ from.y ∷ [])
      unfolding flat
      written_first e h =
          take_put2 s.path now.filled now.x now.y h ∙ rw (both.holds, e, append-nil done, here.0, here.1)

      written_both : q.begun ≡ [] → now.filled + 4 ≤ length s.path →
          take (now.filled + 4) (put2 begun_path (now.filled + 2) to.x to.y) ≡ done ++ flat (from ∷ to ∷ [])
      unfolding flat
      written_both e h =
          let n = now.filled in
          let g : length begun_path ≡ length s.path = length_put2 s.path n now.x now.y in
          let m : n + 4 ≡ n + 2 + 2 = omega arith in
          ap (λ (k : ℕ). take k (put2 begun_path (n + 2) to.x to.y)) m ∙
          take_put2 begun_path (n + 2) to.x to.y (omega arith) ∙
          ap (λ (k : List ℤ). k ++ (to.x ∷ to.y ∷ [])) (written_first e (omega arith)) ∙
          append_assoc done (from.x ∷ from.y ∷ []) (to.x ∷ to.y ∷ [])

      starts : q.begun ≡ [] → Longer [] (lined_by false now to.x to.y s.path)
      starts e =
          let n = now.filled in
          let g : length begun_path ≡ length s.path = length_put2 s.path n now.x now.y in
          let h : n + 4 ≤ length s.path = omega (arith, ap (λ (t : Bool). cond {A = ℕ} t 2 4) (none_open e)) in record {
            same_unit = both.same_unit;
            room = length_put2 begun_path (n + 2) to.x to.y ∙ g ∙ both.room;
            begins = omega (arith, both.filled, ap length e);
            entries = both.entries;
            filled = omega (arith, both.filled, ap length e);
            fits = omega (arith, both.room);
            holds = written_both e h;
            point = (refl, (refl, refl));
            aperture = both.aperture;
          }

      -- as the reader has it: there is room
      pub longer : (ps : List Pt) → q.begun ≡ ps → Longer ps (lined now to.x to.y s.path)
      unfolding lined
      longer [] e = rw (le-leb _ _ fits, none_open e) (starts e)
      longer (p ∷ ps) e = rw (le-leb _ _ fits, one_open e) (goes_on e)
