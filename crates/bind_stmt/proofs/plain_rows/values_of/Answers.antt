use Rattle.std.proofs.Common.{◌≡◌, [], drop, append-nil, sym, subst, arith, ◌∙◌}
use Rattle.std.proofs.Math.ListN.{drop_of_length-le}
use Rattle.bind_stmt.specs.Plain.{AreValues}
use Rattle.bind_stmt.proofs.plain_rows.values_of.Goals as goal

pub returns : goal.returns
returns c =
    let text = c.args.text.now in
    let row = c.args.row.now in
    let past : drop c.loop-value.value-index row ≡ [] = drop_of_length-le row (omega (arith, c.loop-value-test.false)) in
    subst (AreValues text row) (append-nil c.loop-value.values.items ∙ sym c.from_vec.ensures) (c.loop-value.invariant [] (subst (λ xs. AreValues text xs []) (sym past) tt))
