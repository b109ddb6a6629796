use Rattle.std.proofs.Common.{rules, map, []}
use Rattle.std.proofs.lemmas.Result.{err_from_is_err_and}
use Rattle.bind_target.specs.Meant.{begun_meant, target_meant}
use Rattle.sql_words.specs.Spelled.{name_at}
use Rattle.bind_query.specs.Scopes.{outer_of}
use Rattle.bind_write.specs.Parts.{insert_parts}
use Rattle.sql_bound.specs.Writes.{insert_begun}
use Rattle.bind_write.proofs.StepLaws.{comes-as-refused, insert-begun-made, insert-change-refused, insert-listed-refused, insert-target-refused}
use Rattle.bind_write.proofs.writes.begin_insert.Goals as goal

pub returns-in_err-target : goal.returns-in_err-target
returns-in_err-target c =
    comes-as-refused begun_meant (insert_begun (outer_of c.args.scope.now c.args.levels.now []) (insert_parts c.args.insert.now) c.args.work.now) c.from_residual-in_err-target.result c.bind_target.new.work c.in_err-target.field-0.0 (err_from_is_err_and c.from_residual-in_err-target.result c.from_residual-in_err-target.ensures.1)
    (insert-target-refused c.args.scope.now c.args.levels.now c.args.insert.now c.args.work.now c.as_str.result.now (search rules) _ c.in_err-target.ensures)

pub returns-in_err-listed : goal.returns-in_err-listed
returns-in_err-listed c =
    comes-as-refused begun_meant (insert_begun (outer_of c.args.scope.now c.args.levels.now []) (insert_parts c.args.insert.now) c.args.work.now) c.from_residual-in_err-listed.result c.bind_target.new.work c.in_err-listed.field-0.0 (err_from_is_err_and c.from_residual-in_err-listed.result c.from_residual-in_err-listed.ensures.1)
    (insert-listed-refused c.args.scope.now c.args.levels.now c.args.insert.now c.args.work.now c.as_str.result.now (search rules) (target_meant c.in_ok-target.target) c.bind_target.new.work c.in_ok-target.ensures (map (name_at c.scope.inside.text.now) c.as_slice-columns.result.now) (search rules) _ c.in_err-listed.ensures)

pub returns-in_err-change : goal.returns-in_err-change
returns-in_err-change c =
    comes-as-refused begun_meant (insert_begun (outer_of c.args.scope.now c.args.levels.now []) (insert_parts c.args.insert.now) c.args.work.now) c.from_residual-in_err-change.result c.bind_source.new.work c.in_err-change.field-0.0 (err_from_is_err_and c.from_residual-in_err-change.result c.from_residual-in_err-change.ensures.1)
    (insert-change-refused c.args.scope.now c.args.levels.now c.args.insert.now c.args.work.now c.as_str.result.now (search rules) (target_meant c.in_ok-target.target) c.bind_target.new.work c.in_ok-target.ensures (map (name_at c.scope.inside.text.now) c.as_slice-columns.result.now) (search rules) c.in_ok-listed.listed c.as_slice-listed.result.now c.in_ok-listed.ensures c.as_slice-listed.ensures _ c.in_err-change.ensures)

pub returns : goal.returns
returns c =
    insert-begun-made c.args.scope.now c.args.levels.now c.args.insert.now c.args.work.now c.as_str.result.now (search rules) (target_meant c.in_ok-target.target) c.bind_target.new.work c.in_ok-target.ensures (map (name_at c.scope.inside.text.now) c.as_slice-columns.result.now) (search rules) c.in_ok-listed.listed c.as_slice-listed.result.now c.in_ok-listed.ensures c.as_slice-listed.ensures
    c.in_ok-change.change c.bind_source.new.work c.in_ok-change.ensures c.new.result c.new.ensures
