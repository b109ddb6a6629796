use Rattle.std.proofs.Common.{rules}
use Rattle.std.proofs.lemmas.Result.{err_from_is_err_and}
use Rattle.bind_query.proofs.ExprSteps.{called-refused, called-seen, called-unknown}
use Rattle.bind_query.proofs.naming.called_column.Goals as goal

pub returns-in_err-sight : goal.returns-in_err-sight
returns-in_err-sight c =
    let why = err_from_is_err_and c.from_residual-in_err-sight.result c.from_residual-in_err-sight.ensures.1 in
    rw (why.1, why.2) (called-refused c.args.scope.now c.args.levels.now c.args.tables.now _ _ c.args.work.now (search rules) _ (search rules))

pub returns-in-Some : goal.returns-in-Some
returns-in-Some c = called-seen c.args.scope.now c.args.levels.now c.args.tables.now _ _ c.args.work.now (search rules) c.in-Some.sight _ _ (search rules) c.seen.ensures

pub returns : goal.returns
returns c = called-unknown c.args.scope.now c.args.levels.now c.args.tables.now _ _ c.args.work.now (search rules) _ (search rules) (search rules)
