use Rattle.std.proofs.Common.{◌≡◌, [], drop, append-nil, sym, subst, arith, ◌∙◌}
use Rattle.std.proofs.Math.ListN.{drop_of_length-le}
use Rattle.bind_stmt.specs.Plain.{AreRows}
use Rattle.bind_stmt.proofs.plain_rows.rows_bound.Goals as goal

pub returns : goal.returns
returns c =
    let text = c.args.text.now in
    let rows = c.args.rows.now in
    let past : drop c.loop-row.row-index rows ≡ [] = drop_of_length-le rows (omega (arith, c.loop-row-test.false)) in
    subst (AreRows text c.args.width rows) (append-nil c.loop-row.made.items ∙ sym c.from_vec.ensures) (c.loop-row.invariant [] (subst (λ xs. AreRows text c.args.width xs []) (sym past) tt))
