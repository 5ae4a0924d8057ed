-- In every turn what is left of the chunk, after what has been gathered, comes to what the whole chunk gives.
use Rattle.std.proofs.Common.{◌≤◌, length, drop, sym, ap, ◌∙◌, arith, length-drop, drop_of_length-le, eqb-true}
use Rattle.gerber.specs.Reader.{State}
use Rattle.gather.specs.Gather.{Gathered, notes_of, together, goes_on}
use Rattle.gather.proofs.Reading.{rest_whole, from_none, turn_ends, turn_goes_on, turn_uses}
use Rattle.gather.proofs.gather.Goals as goal

pub returns-in_default : goal.returns-in_default
returns-in_default c =
    let l = c.loop-rest in
    let s : State = record { reader = l.gathering.reader; path = l.path } in
    turn_ends c.args.table s (notes_of l.gathering l.apertures l.starts) l.rest.now c.feed-fed.ensures c.in_default.not-Stroke ∙ l.invariant

pub slice_bounds-rest-count : goal.slice_bounds-rest-count
slice_bounds-rest-count c =
    let l = c.loop-rest in
    let s : State = record { reader = l.gathering.reader; path = l.path } in
    let w = turn_uses c.args.table s (notes_of l.gathering l.apertures l.starts) l.rest.now c.feed-fed.ensures _ _ _ c.in-Stroke.is in
    w.1

pub slice_bounds-rest-start : goal.slice_bounds-rest-start
slice_bounds-rest-start c =
    let l = c.loop-rest in
    let s : State = record { reader = l.gathering.reader; path = l.path } in
    let w = turn_uses c.args.table s (notes_of l.gathering l.apertures l.starts) l.rest.now c.feed-fed.ensures _ _ _ c.in-Stroke.is in
    w.1

pub loop-rest-smaller : goal.loop-rest-smaller
loop-rest-smaller c =
    let l = c.loop-rest in
    let s : State = record { reader = l.gathering.reader; path = l.path } in
    let w = turn_uses c.args.table s (notes_of l.gathering l.apertures l.starts) l.rest.now c.feed-fed.ensures _ _ _ c.in-Stroke.is in
    rw (rest_whole c.feed-fed.result.used l.rest.now) (omega (arith, w.0, w.1, length-drop c.feed-fed.result.used l.rest.now))

pub loop-rest-preserved : goal.loop-rest-preserved
loop-rest-preserved c =
    let l = c.loop-rest in
    let s : State = record { reader = l.gathering.reader; path = l.path } in
    let n = notes_of l.gathering l.apertures l.starts in
    let q = c.note-gathering.ensures c.feed-fed.new.path c.in-Stroke.field-2 in
    rw (rest_whole c.feed-fed.result.used l.rest.now)
    (ap (λ (z : Gathered). goes_on c.args.table z (drop c.feed-fed.result.used l.rest.now)) q ∙
    turn_goes_on c.args.table s n l.rest.now c.feed-fed.ensures _ _ _ c.in-Stroke.is ∙ l.invariant)

pub returns : goal.returns
returns c =
    let l = c.loop-rest in
    let s : State = record { reader = l.gathering.reader; path = l.path } in
    let n = notes_of l.gathering l.apertures l.starts in
    let none : length l.rest.now ≤ 0 = omega (arith, eqb-true (length l.rest.now) 0 (sym c.is_empty.ensures ∙ c.loop-rest-test.false)) in
    sym (from_none c.args.table s n) ∙ ap (goes_on c.args.table (together s n)) (sym (drop_of_length-le l.rest.now {i = 0} none)) ∙ l.invariant
