-- What is read in a turn stands behind what was read before.
use Rattle.std.proofs.Common.{ℕ, List, length, ◌≡◌, ◌-◌, ◌∙◌, sym, subst, arith}
use Rattle.std.specs.Io.KnownBytes.{Consumes}
use borrow.Rule.Slice.PartMut.{put_mid, same_len_mid}
use Rattle.inputs.proofs.Stream.{both_read, behind, left_length}
use Rattle.inputs.proofs.fill_from.Goals as goal

pub loop-done-preserved : goal.loop-done-preserved
loop-done-preserved g c =
    let xs = c.loop-done.buf in
    let ys = c.read.new.buf in
    let a = c.loop-done.done in
    let k = length xs - a in
    let long : length (put_mid a k xs ys) ≡ length xs = same_len_mid a k xs ys c.read.auto.buf in
    let m : length ys ≡ k = c.read.auto.buf ∙ left_length xs a in
    let R = g.R.Read.remaining in
    record {
      long = long ∙ c.loop-done.invariant.long;
      within = omega (arith, long, m, c.in_ok-n.ensures.bound.0, c.loop-done-test.true);
      taken = subst (λ (l : List ℕ). Consumes (R c.args.input.now) (R c.read.new.self) l)
          (sym (behind xs ys _ a c.in_ok-n.n c.loop-done.invariant.within c.in_ok-n.ensures.bound.0))
          (both_read _ _ _ _ _ c.loop-done.invariant.taken c.in_ok-n.ensures.bytes.0);
    }
