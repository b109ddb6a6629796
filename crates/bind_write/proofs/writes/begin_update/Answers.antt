use Rattle.std.proofs.Common.{rules, []}
use Rattle.std.proofs.lemmas.Result.{err_from_is_err_and}
use Rattle.bind_target.specs.Meant.{begun_meant, target_meant}
use Rattle.bind_query.specs.Scopes.{outer_of}
use Rattle.bind_write.specs.Parts.{update_parts}
use Rattle.sql_bound.specs.Writes.{update_begun}
use Rattle.bind_write.proofs.StepLaws.{comes-as-refused, update-begun-made, update-change-refused, update-target-refused}
use Rattle.bind_write.proofs.writes.begin_update.Goals as goal

pub returns-in_err-target : goal.returns-in_err-target
returns-in_err-target c =
    comes-as-refused begun_meant (update_begun (outer_of c.args.scope.now c.args.levels.now []) (update_parts c.args.update.now) c.args.work.now) c.from_residual-in_err-target.result c.bind_target.new.work c.in_err-target.field-0.0 (err_from_is_err_and c.from_residual-in_err-target.result c.from_residual-in_err-target.ensures.1)
    (update-target-refused c.args.scope.now c.args.levels.now c.args.update.now c.args.work.now c.as_str.result.now (search rules) c.as_slice.result.now (search rules) _ c.in_err-target.ensures)

pub returns-in_err-change : goal.returns-in_err-change
returns-in_err-change c =
    comes-as-refused begun_meant (update_begun (outer_of c.args.scope.now c.args.levels.now []) (update_parts c.args.update.now) c.args.work.now) c.from_residual-in_err-change.result c.bind_update_of.new.work c.in_err-change.field-0.0 (err_from_is_err_and c.from_residual-in_err-change.result c.from_residual-in_err-change.ensures.1)
    (update-change-refused c.args.scope.now c.args.levels.now c.args.update.now c.args.work.now c.as_str.result.now (search rules) c.as_slice.result.now (search rules) (target_meant c.in_ok-target.target) c.bind_target.new.work c.in_ok-target.ensures _ c.in_err-change.ensures)

pub returns : goal.returns
returns c =
    update-begun-made c.args.scope.now c.args.levels.now c.args.update.now c.args.work.now c.as_str.result.now (search rules) c.as_slice.result.now (search rules) (target_meant c.in_ok-target.target) c.bind_target.new.work c.in_ok-target.ensures
    c.in_ok-change.change c.bind_update_of.new.work c.in_ok-change.ensures c.in_ok-sets.sets (search rules)
