use Rattle.std.proofs.Common.{rules, []}
use Rattle.std.proofs.lemmas.Result.{err_from_is_err_and}
use Rattle.bind_query.specs.Scopes.{scope_of}
use Rattle.bind_target.specs.Meant.{target_meant}
use Rattle.sql_bound.specs.Trees.{of_assignment}
use Rattle.bind_write.proofs.StepLaws.{place-refused, set-put, value-refused}
use Rattle.bind_write.proofs.writes.put_set.Goals as goal

pub returns-in_err-column : goal.returns-in_err-column
returns-in_err-column c =
    let why = err_from_is_err_and c.from_residual-in_err-column.result c.from_residual-in_err-column.ensures.1 in
    rw (why.1, why.2)
    (place-refused (scope_of c.args.scope.now c.args.levels.now []) (target_meant c.args.target.now) (of_assignment c.args.set.now) c.args.sets.now c.args.work.now c.in_ok-room_behind.field-0 (search rules) c.as_str.result.now (search rules) _ c.in_err-column.ensures)

pub returns-in_err-a : goal.returns-in_err-a
returns-in_err-a c =
    let why = err_from_is_err_and c.from_residual-in_err-a.result c.from_residual-in_err-a.ensures.1 in
    rw (why.1, why.2)
    (value-refused (scope_of c.args.scope.now c.args.levels.now []) (target_meant c.args.target.now) (of_assignment c.args.set.now) c.args.sets.now c.args.work.now c.in_ok-room_behind.field-0 (search rules) c.as_str.result.now (search rules) c.in_ok-column.column c.in_ok-column.ensures _ c.in_err-a.ensures)

pub returns : goal.returns
returns c =
    set-put (scope_of c.args.scope.now c.args.levels.now []) (target_meant c.args.target.now) (of_assignment c.args.set.now) c.args.sets.now c.args.work.now c.in_ok-room_behind.field-0 (search rules) c.as_str.result.now (search rules)
    c.in_ok-column.column c.in_ok-column.ensures c.in_ok-a.a c.bind.new.work c.in_ok-a.ensures c.put.result c.put.new.items c.put.ensures.ok c.put.ensures.mem
