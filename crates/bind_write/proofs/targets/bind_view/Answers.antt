use Rattle.std.proofs.Common.{rules, [], Some}
use Rattle.std.proofs.lemmas.Result.{err_from_is_err_and}
use Rattle.bind_query.specs.Scopes.{outer_of}
use Rattle.sql_bound.specs.Froms.{of_view}
use Rattle.sql_bound.specs.Targets.{inside_write}
use Rattle.bind_write.proofs.StepLaws.{comes-refused, view-made, view-refused}
use Rattle.bind_write.proofs.targets.bind_view.Goals as goal

pub returns-in_err-asked : goal.returns-in_err-asked
returns-in_err-asked c =
    comes-refused (of_view (inside_write (outer_of c.args.scope.now [] [])) c.args.name.now c.args.entry.now (Some c.args.view.now) c.args.work.now) c.from_residual.result (record c.args.work.now { units = c.replace-units.new.dest }) c.in_err-asked.field-0.0 (err_from_is_err_and c.from_residual.result c.from_residual.ensures.1)
    (view-refused c.args.scope.now c.args.name.now c.args.entry.now c.args.view.now c.args.work.now c.of_entry-inside.result (search rules) c.replace-units.result c.replace-units.ensures.value _ c.in_err-asked.ensures)

pub returns : goal.returns
returns c =
    view-made c.args.scope.now c.args.name.now c.args.entry.now c.args.view.now c.args.work.now c.of_entry-inside.result (search rules) c.replace-units.result c.replace-units.ensures.value
    c.in_ok-asked.asked c.in_ok-asked.units c.in_ok-asked.ensures c.view_source.result c.view_source.ensures
