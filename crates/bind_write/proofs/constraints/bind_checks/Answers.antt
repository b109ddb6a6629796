use Rattle.std.proofs.Common.{Some, ◌∷◌, []}
use Rattle.std.proofs.lemmas.Result.{err_from_is_err_and}
use Rattle.bind_source.specs.Arounds.{around_of}
use Rattle.sql_bound.specs.Froms.{scope_item}
use Rattle.sql_bound.specs.HostFacts.{facts_of}
use Rattle.bind_write.proofs.ConstraintLaws.{checks-made, columns-refused, table-refused}
use Rattle.bind_write.proofs.constraints.bind_checks.Goals as goal

pub returns-in_err-put_checks_of_columns : goal.returns-in_err-put_checks_of_columns
returns-in_err-put_checks_of_columns c =
    let why = err_from_is_err_and c.from_residual.result c.from_residual.ensures.1 in
    rw (why.1, why.2)
    (columns-refused (around_of c.args.catalog.now c.args.facts.now) (facts_of c.args.facts.now) c.args.text.now (scope_item 0 (Some c.args.name.now) c.args.s.now ∷ []) c.args.table.now c.args.work.now c.as_slice-columns.result.now c.as_slice-columns.ensures c.new-checks.result c.new-checks.ensures _ c.in_err-put_checks_of_columns.ensures)

pub returns-in_err-put_checks_of_table : goal.returns-in_err-put_checks_of_table
returns-in_err-put_checks_of_table c =
    let why = err_from_is_err_and c.from_residual-in_err-put_checks_of_table.result c.from_residual-in_err-put_checks_of_table.ensures.1 in
    rw (why.1, why.2)
    (table-refused (around_of c.args.catalog.now c.args.facts.now) (facts_of c.args.facts.now) c.args.text.now (scope_item 0 (Some c.args.name.now) c.args.s.now ∷ []) c.args.table.now c.args.work.now c.as_slice-columns.result.now c.as_slice-columns.ensures c.new-checks.result c.new-checks.ensures c.put_checks_of_columns.new.checks c.put_checks_of_columns.new.work c.in_ok-put_checks_of_columns.ensures c.as_slice-constraints.result.now c.as_slice-constraints.ensures _ c.in_err-put_checks_of_table.ensures)

pub returns : goal.returns
returns c =
    checks-made (around_of c.args.catalog.now c.args.facts.now) (facts_of c.args.facts.now) c.args.text.now (scope_item 0 (Some c.args.name.now) c.args.s.now ∷ []) c.args.table.now c.args.work.now c.as_slice-columns.result.now c.as_slice-columns.ensures c.new-checks.result c.new-checks.ensures c.put_checks_of_columns.new.checks c.put_checks_of_columns.new.work c.in_ok-put_checks_of_columns.ensures c.as_slice-constraints.result.now c.as_slice-constraints.ensures
    c.put_checks_of_table.new.checks c.put_checks_of_table.new.work c.in_ok-put_checks_of_table.ensures
