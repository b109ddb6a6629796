use Rattle.std.proofs.Common.{rules, Some, ◌∷◌, []}
use Rattle.std.specs.Option.{option_copied, option_to_list}
use Rattle.std.proofs.lemmas.Result.{err_from_is_err_and}
use Rattle.bind_source.specs.Arounds.{around_of}
use Rattle.sql_bound.specs.Froms.{scope_item}
use Rattle.bind_write.proofs.ConstraintLaws.{check-put, check-refused}
use Rattle.bind_write.proofs.constraints.put_check.Goals as goal

pub returns-in_err-tree-in-Some : goal.returns-in_err-tree-in-Some
returns-in_err-tree-in-Some c =
    let why = err_from_is_err_and c.from_residual-in_err-tree-in-Some.result c.from_residual-in_err-tree-in-Some.ensures.1 in
    rw (why.1, why.2)
    (check-refused (around_of c.args.catalog.now c.args.facts.now) c.args.text.now (scope_item 0 (Some c.args.name.now) c.args.s.now ∷ []) c.in_ok-level-in-Some.level c.in_ok-level-in-Some.ensures.ok (option_to_list (option_copied c.args.check)) c.in-Some.e.now (search rules) c.args.checks.now c.args.work.now _ c.in_err-tree-in-Some.ensures)

pub returns-in_ok-tree-in-Some : goal.returns-in_ok-tree-in-Some
returns-in_ok-tree-in-Some c =
    check-put (around_of c.args.catalog.now c.args.facts.now) c.args.text.now (scope_item 0 (Some c.args.name.now) c.args.s.now ∷ []) c.in_ok-level-in-Some.level c.in_ok-level-in-Some.ensures.ok (option_to_list (option_copied c.args.check)) c.in-Some.e.now (search rules) c.args.checks.now c.args.work.now
    c.in_ok-tree-in-Some.tree c.bind_constraint.new.work c.in_ok-tree-in-Some.ensures c.pushed.result c.pushed.new.all c.pushed.ensures.ok c.pushed.ensures.mem
