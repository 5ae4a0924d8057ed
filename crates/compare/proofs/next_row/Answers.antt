-- A row that is put is there, and its text is counted.
use Rattle.std.proofs.Common.{◌≡◌, ℕ, ◌-◌, ◌≤◌, Some, ap, ◌∙◌}
use Rattle.lines.specs.Put.{row_put}
use Rattle.compare.specs.Step.{Stepped}
use Rattle.compare.proofs.Steps.{row_put_lem}
use Rattle.compare.proofs.next_row.Goals as goal

pub returns : goal.returns
returns c =
    let o = c.args.o.now in
    let a = c.args.a.now in
    let b = c.args.b.now in
    let n = c.in_ok-count.count in
    let row : (1 ≤ o.left) × (c.in_ok-row.row ≡ o.left - 1) = c.in_ok-row.ensures in
    let left : ℕ → Stepped = λ (k : ℕ). record { overlay = record { columns = o.columns; left = k }; count = Some n; buffer = c.put_row.new.out } in
    ap left row.1 ∙ row_put_lem o a b c.args.out.now n row.0 (c.in_ok-count.ensures ∙ ap (λ (k : ℕ). row_put a b o.columns k c.args.out.now) row.1)
