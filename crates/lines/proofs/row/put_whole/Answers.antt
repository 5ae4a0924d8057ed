-- The line of the number, and behind it the lines of the pixels, where there are some.
use Rattle.std.proofs.Common.{◌≡◌, ℕ, List, length, sym, ap, ◌∙◌, arith}
use Rattle.text.specs.Put.{put_at}
use Rattle.text.proofs.Decimal.{few_digits, Written, written}
use Rattle.difference.specs.Apart.{differing}
use Rattle.lines.specs.Lines.{row_text}
use Rattle.lines.specs.Held.{columns_text}
use Rattle.lines.proofs.Whole.{both_counted, few_counted, no_pixels, pixels_room, whole_row}
use Rattle.lines.proofs.row.put_whole.Goals as goal

pub put_line-at-requires-clause-number : goal.put_line-at-requires-clause-number
put_line-at-requires-clause-number c =
    let a = c.args in
    omega (arith, c.differing-number.ensures, few_counted a.a.now a.b.now a.columns c.requires.rows)

pub returns-then-number-eq0 : goal.returns-then-number-eq0
returns-then-number-eq0 c =
    let a = c.args in
    let r = c.requires in
    let number : c.differing-number.result ≡ differing a.a.now a.b.now a.columns = c.differing-number.ensures ∙ both_counted a.a.now a.b.now a.columns r.rows in
    c.put_line-at.ensures ∙ ap (λ (n : ℕ). put_at a.out.now 0 (row_text a.row n)) number
    ∙ no_pixels a.a.now a.b.now a.out.now a.columns a.row r.rows r.row r.room (sym number ∙ c.if-number-eq0.true)

pub invariant_of-rows-clause-first_bytes : goal.invariant_of-rows-clause-first_bytes
invariant_of-rows-clause-first_bytes c = λ k. (c.type_inv.a k).fits

pub invariant_of-rows-clause-second_bytes : goal.invariant_of-rows-clause-second_bytes
invariant_of-rows-clause-second_bytes c = λ k. (c.type_inv.b k).fits

pub invariant_of-rows-clause-short : goal.invariant_of-rows-clause-short
invariant_of-rows-clause-short c =
    let a = c.args in
    let d = c.decimal-n in
    let w : Written a.row d.result d.new.out = written _ d.ensures.in_bounds d.ensures.len d.ensures.digits in
    omega (arith, ap length w.text, few_digits a.row (omega (arith, c.requires.row)))

pub put_pixels-requires : goal.put_pixels-requires
put_pixels-requires c =
    let a = c.args in
    let r = c.requires in
    let number : c.differing-number.result ≡ differing a.a.now a.b.now a.columns = c.differing-number.ensures ∙ both_counted a.a.now a.b.now a.columns r.rows in
    record { room = pixels_room a.a.now a.b.now a.out.now a.columns a.row r.rows r.row r.room (c.put_line-at.ensures ∙ ap (λ (n : ℕ). put_at a.out.now 0 (row_text a.row n)) number) }

pub returns : goal.returns
returns c =
    let a = c.args in
    let r = c.requires in
    let d = c.decimal-n in
    let w : Written a.row d.result d.new.out = written _ d.ensures.in_bounds d.ensures.len d.ensures.digits in
    let number : c.differing-number.result ≡ differing a.a.now a.b.now a.columns = c.differing-number.ensures ∙ both_counted a.a.now a.b.now a.columns r.rows in
    whole_row a.a.now a.b.now a.out.now a.columns a.row r.rows r.row r.room
    (c.put_line-at.ensures ∙ ap (λ (n : ℕ). put_at a.out.now 0 (row_text a.row n)) number)
    (few_digits a.row (omega (arith, r.row)))
    (c.put_pixels.ensures ∙ ap (λ (t : List ℕ). put_at c.put_line-at.new.out c.put_line-at.result (columns_text a.a.now a.b.now t 0 a.columns)) w.text)
