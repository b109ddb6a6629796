use Rattle.std.proofs.Common.{rules}
use Rattle.std.proofs.lemmas.Result.{err_from_is_err_and}
use Rattle.bind_target.specs.Meant.{target_meant}
use Rattle.bind_write.proofs.StepLaws.{filter-refused, sets-refused}
use Rattle.bind_write.proofs.writes.bind_update_of.Goals as goal

pub returns-in_err-sets : goal.returns-in_err-sets
returns-in_err-sets c =
    let why = err_from_is_err_and c.from_residual-in_err-sets.result c.from_residual-in_err-sets.ensures.1 in
    rw (why.1, why.2)
    (sets-refused c.args.scope.now c.args.levels.now (target_meant c.args.target.now) c.clause-row.result c.clause-row.ensures c.as_slice.result.now (search rules) c.args.update.now c.args.work.now c.as_slice-assignments.result.now c.as_slice-assignments.ensures _ c.in_err-sets.ensures)

pub returns-in_err-conjuncts : goal.returns-in_err-conjuncts
returns-in_err-conjuncts c =
    let why = err_from_is_err_and c.from_residual-in_err-conjuncts.result c.from_residual-in_err-conjuncts.ensures.1 in
    rw (why.1, why.2)
    (filter-refused c.args.scope.now c.args.levels.now (target_meant c.args.target.now) c.clause-row.result c.clause-row.ensures c.as_slice.result.now (search rules) c.args.update.now c.args.work.now c.as_slice-assignments.result.now c.as_slice-assignments.ensures c.in_ok-sets.sets c.bind_sets.new.work c.in_ok-sets.ensures c.as_slice-2.result.now (search rules) _ c.in_err-conjuncts.ensures)
