use Rattle.std.proofs.lemmas.Result.{err_from_is_err_and}
use Rattle.bind_source.specs.Arounds.{around_of}
use Rattle.sql_bound.specs.HostFacts.{facts_of}
use Rattle.bind_write.proofs.StepLaws.{checks-refused, defaults-refused}
use Rattle.bind_write.proofs.targets.table_target.Goals as goal

pub returns-in_err-defaults : goal.returns-in_err-defaults
returns-in_err-defaults c =
    let why = err_from_is_err_and c.from_residual.result c.from_residual.ensures.1 in
    rw (why.1, why.2)
    (defaults-refused (around_of c.args.catalog.now c.args.facts.now) (facts_of c.args.facts.now) c.args.entry.now.text c.as_str-text.result.now c.as_str-text.ensures c.args.s c.args.table.now c.as_slice-columns.result.now c.as_slice-columns.ensures c.args.name c.args.work.now _ c.in_err-defaults.ensures)

pub returns-in_err-checks : goal.returns-in_err-checks
returns-in_err-checks c =
    let why = err_from_is_err_and c.from_residual-in_err-checks.result c.from_residual-in_err-checks.ensures.1 in
    rw (why.1, why.2)
    (checks-refused (around_of c.args.catalog.now c.args.facts.now) (facts_of c.args.facts.now) c.args.entry.now.text c.as_str-text.result.now c.as_str-text.ensures c.args.s c.args.table.now c.as_slice-columns.result.now c.as_slice-columns.ensures c.args.name c.args.work.now c.in_ok-defaults.defaults c.bind_defaults.new.work c.in_ok-defaults.ensures _ c.in_err-checks.ensures)
