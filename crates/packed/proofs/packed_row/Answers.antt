-- Where no pen is held the call refuses; otherwise the row is that of the place's pen.
use Rattle.std.proofs.Common.{◌∙◌, sym, arith}
use Rattle.aperture.proofs.Theorems.{looked_small}
use Rattle.packed.proofs.Calls.{call_refused, call_at}
use Rattle.packed.proofs.packed_row.Goals as goal

pub returns-in_default : goal.returns-in_default
returns-in_default c =
    let a = c.args in
    call_refused a.table a.number a.path.now a.columns a.rows a.row a.bytes.now (sym c.look_up.ensures ∙ c.in_default.is) c.report.ensures

pub offset_bounds-table-i : goal.offset_bounds-table-i
offset_bounds-table-i c =
    let small = looked_small c.args.table c.args.number _ (sym c.look_up.ensures ∙ c.in-At.is) in
    record { fits = omega (arith, small) }

pub bounds-table-i : goal.bounds-table-i
bounds-table-i c = looked_small c.args.table c.args.number _ (sym c.look_up.ensures ∙ c.in-At.is)

pub returns : goal.returns
returns c =
    let a = c.args in
    c.packed_for.ensures ∙ call_at a.table a.number a.path.now a.columns a.rows a.row a.bytes.now _ (sym c.look_up.ensures ∙ c.in-At.is)
