use Rattle.std.proofs.Common.{rules}
use Rattle.std.proofs.lemmas.Result.{err_from_is_err_and}
use Rattle.bind_target.specs.Meant.{target_meant}
use Rattle.bind_write.proofs.StepLaws.{deleted-refused}
use Rattle.bind_write.proofs.writes.bind_delete_of.Goals as goal

pub returns-in_err-conjuncts : goal.returns-in_err-conjuncts
returns-in_err-conjuncts c =
    let why = err_from_is_err_and c.from_residual-in_err-conjuncts.result c.from_residual-in_err-conjuncts.ensures.1 in
    rw (why.1, why.2)
    (deleted-refused c.args.scope.now c.args.levels.now (target_meant c.args.target.now) c.clause-row.result c.clause-row.ensures c.as_slice.result.now (search rules) c.args.delete.now c.args.work.now _ c.in_err-conjuncts.ensures)
