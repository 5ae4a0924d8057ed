-- Each number is written behind the one before it.
use Rattle.std.proofs.Common.{ℕ, List, ◌++◌, ◌≡◌, subst, rules}
use Rattle.std.specs.Prelude.{OnOk}
use Rattle.std.specs.Io.KnownBytes.{Appends}
use Rattle.wire.specs.Write.{number_bytes, eight_of}
use Rattle.inputs.proofs.Stream.{both_written, last_written}
use Rattle.try_uncut.proofs.put_three.Goals as goal

pub returns : goal.returns
returns g c =
    let W = g.W.Write.contents in
    let s = number_bytes c.args.some in
    let f = eight_of c.args.first in
    let first_is : c.eight.result ≡ f = search rules in
    let last_is : c.eight-2.result ≡ eight_of c.args.last = search rules in
    let first : Appends (W c.args.out.now) (W c.put.new.out) s =
    subst (λ (b : List ℕ). Appends (W c.args.out.now) (W c.put.new.out) b) c.number_bytes.ensures c.in_ok-put.ensures.written in
    let second : Appends (W c.put.new.out) (W c.put-2.new.out) f =
    subst (λ (b : List ℕ). Appends (W c.put.new.out) (W c.put-2.new.out) b) first_is c.in_ok-put-2.ensures.written in
    let third : OnOk c.put-3.result (Appends (W c.put-2.new.out) (W c.put-3.new.out) (eight_of c.args.last)) =
    subst (λ (b : List ℕ). OnOk c.put-3.result (Appends (W c.put-2.new.out) (W c.put-3.new.out) b)) last_is c.put-3.ensures.written in
    last_written c.put-3.result (W c.args.out.now) (W c.put-2.new.out) (W c.put-3.new.out) (s ++ f) (eight_of c.args.last)
    (both_written (W c.args.out.now) (W c.put.new.out) (W c.put-2.new.out) s f first second)
    third
