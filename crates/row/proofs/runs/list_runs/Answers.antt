-- Byte k passed, and its runs written: the list has room for the runs up to its end, as it has for all.
use Rattle.std.proofs.Common.{◌≡◌, ◌∙◌, refl, sym, ap, subst, arith, ℕ, List, [], length, ◌+◌, ◌*◌, ◌≤◌}
use Rattle.bits.specs.Bits.{packed_length, bit_at}
use Rattle.stroke.specs.Runs.{Run}
use Rattle.row.specs.Answer.{listed}
use Rattle.row.proofs.Grown.{runs_more}
use Rattle.row.proofs.BoundedRuns.{runs_first, runs_end}
use Rattle.row.proofs.Pass.{passed_none, listed_itself, listed_on}
use Rattle.row.proofs.runs.list_runs.Goals as goal

-- no run leaves the list
none : {rs : List Run} (l : List ℕ) → rs ≡ [] → l ≡ listed rs l
none l e = rw e

pub loop-k-init : goal.loop-k-init
loop-k-init g c =
    let b = c.requires.bounded in
    record { passed = passed_none b refl _ (omega arith); written = λ w r. none c.args.runs.now (runs_first b _ (omega arith)); as_long = refl }

pub pass_byte-p-requires-clause-held : goal.pass_byte-p-requires-clause-held
pass_byte-p-requires-clause-held g c = λ w.
    let i = c.loop-k in
    listed_itself (bit_at c.args.bytes.now) (8 * i.k) c.args.runs.now i.runs i.invariant.as_long (i.invariant.written w)

pub pass_byte-p-requires-clause-room : goal.pass_byte-p-requires-clause-room
pass_byte-p-requires-clause-room g c = λ w.
    let i = c.loop-k in
    let f = bit_at c.args.bytes.now in
    let n = 8 * packed_length c.args.end in
    let more = runs_more f (8 * i.k + 8) n (omega (arith, c.length_of-k-end.ensures, c.loop-k-test.true)) in
    let all = ap length (runs_end c.requires.bounded n (omega arith)) in
    omega (arith, more, all, c.requires.room w, i.invariant.as_long)

pub loop-k-preserved : goal.loop-k-preserved
loop-k-preserved g c =
    let i = c.loop-k in
    let a = c.args in
    let p = c.pass_byte-p in
    let e : 8 * i.k + 8 ≡ 8 * (i.k + 1) = omega arith in
    record {
      passed = rw e at p.ensures.passed;
      written = λ w.
          rw e at
          (listed_on (bit_at a.bytes.now) (8 * i.k) (8 * i.k + 8) (omega arith) a.runs.now i.runs p.new.runs i.invariant.as_long (i.invariant.written w) (p.ensures.written w));
      as_long = p.auto.runs ∙ i.invariant.as_long;
    }

pub returns-clause-count : goal.returns-clause-count
returns-clause-count g c =
    let i = c.loop-k in
    i.invariant.passed.counts ∙ sym (ap length (runs_end c.requires.bounded (8 * i.k) (omega (arith, c.length_of-k-end.ensures, c.loop-k-test.false))))

pub returns-clause-written : goal.returns-clause-written
returns-clause-written g c = λ w.
    let i = c.loop-k in
    let l = c.args.runs.now in
    subst (λ (rs : List Run). 2 * length rs ≤ length l → i.runs ≡ listed rs l)
    (sym (runs_end c.requires.bounded (8 * i.k) (omega (arith, c.length_of-k-end.ensures, c.loop-k-test.false)))) (i.invariant.written w)
