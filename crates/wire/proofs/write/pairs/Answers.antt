-- The two bytes of the next number are stored.
use Rattle.std.proofs.Common.{◌≡◌, ◌+◌, ◌*◌, ◌/◌, ◌%◌, ◌<◌, ℕ, suc, length, get_or, set, List, sym, ap, ap₂, ◌∙◌, add-one, arith, rules}
use Rattle.std.proofs.Math.Seq.{paste}
use Rattle.wire.specs.Write.{word_bytes}
use Rattle.wire.proofs.Front.{front_suc}
use Rattle.wire.proofs.Words.{words_length, word_low, word_high}
use Rattle.wire.proofs.write.pairs.Goals as goal

pub loop-i-preserved : goal.loop-i-preserved
loop-i-preserved c =
    let i = c.loop-i.i in
    let l = c.args.list.now in
    let d = c.args.bytes.now in
    let w = word_bytes l in
    let of : i < length l = omega arith in
    let to : 2 * i + 1 < length d = omega arith in
    let from : 2 * i + 1 < length w = omega (arith, words_length l) in
    let low : set c.loop-i.bytes (2 * i) (get_or l i 0 % 256) ≡ paste d 0 w (2 * i + 1) =
    ap₂ (λ (s : List ℕ) (z : ℕ). set s (2 * i) z) c.loop-i.invariant (sym (word_low l i of))
    ∙ front_suc d w (2 * i) 0 (omega arith) (omega arith)
    ∙ ap (paste d 0 w) (sym (add-one (2 * i))) in
    let e : 2 * (i + 1) ≡ suc (2 * i + 1) = omega arith in
    let low_is : get_or c.to_le_bytes.result 0 0 ≡ get_or l i 0 % 256 = search rules in
    let high_is : get_or c.to_le_bytes.result 1 0 ≡ get_or l i 0 / 256 = search rules in
    rw e (ap₂ (λ (x y : ℕ). set (set c.loop-i.bytes (2 * i) x) (2 * i + 1) y) low_is high_is
    ∙ ap₂ (λ (s : List ℕ) (z : ℕ). set s (2 * i + 1) z) low (sym (word_high l i of)) ∙ front_suc d w (2 * i + 1) 0 to from)
