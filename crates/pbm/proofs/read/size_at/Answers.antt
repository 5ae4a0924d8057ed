-- One digit more, or the number as it was read; where no digit follows it is whole.
use Rattle.std.proofs.Common.{◌≡◌, ◌+◌, ◌-◌, ℕ, suc, drop, get_or, sym, ap, ◌∙◌, add-one, arith}
use Rattle.pbm.specs.Reading.{leading}
use Rattle.pbm.proofs.Reading.{digits_stop, digits_end, digits_more, told, told_last, told_more, one_digit_more}
use Rattle.pbm.proofs.read.size_at.Goals as goal

pub returns-then-not-is_ascii_digit : goal.returns-then-not-is_ascii_digit
returns-then-not-is_ascii_digit c =
    let l = c.loop-i in
    let e = digits_stop (c.args.at + 5 - l.i) c.args.text.now l.i (omega arith) (sym c.is_ascii_digit.ensures.value ∙ c.if-not-is_ascii_digit.true) in
    sym (l.invariant.same ∙ told_last l.value l.i e)

pub loop-i-preserved : goal.loop-i-preserved
loop-i-preserved c =
    let text = c.args.text.now in
    let at = c.args.at in
    let i = c.loop-i.i in
    let v = c.loop-i.value in
    let h = c.loop-i.invariant in
    let n = c.next-value.result in
    let x = get_or text i 0 in
    let first = sym c.is_ascii_digit.ensures.value ∙ c.if-not-is_ascii_digit.false in
    let k : i + 1 - at ≡ suc (i - at) = omega (arith, h.from) in
    let few = one_digit_more (i - at) v x h.small first in
    record {
      from = omega (arith, h.from);
      few = omega arith;
      small = rw k (omega (arith, few, c.next-value.ensures));
      same = h.same
          ∙ ap (told v i) (digits_more at i text (omega arith) first)
          ∙ told_more v i x (leading (at + 5 - suc i) (drop (suc i) text))
          ∙ ap (λ (m : ℕ). told m (suc i) (leading (at + 5 - suc i) (drop (suc i) text))) (sym c.next-value.ensures)
          ∙ ap (λ (j : ℕ). told n j (leading (at + 5 - j) (drop j text))) (sym (add-one i));
    }

pub returns : goal.returns
returns c =
    let l = c.loop-i in
    let e = digits_end c.args.at l.i c.args.text.now (omega arith) in
    let last : c.max.result ≡ l.i = omega (arith, l.invariant.from) in
    rw last (sym (l.invariant.same ∙ told_last l.value l.i e))
