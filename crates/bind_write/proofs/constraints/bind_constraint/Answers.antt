use Rattle.std.proofs.Common.{rules}
use Rattle.std.proofs.lemmas.Result.{err_from_is_err_and}
use Rattle.bind_source.specs.Arounds.{around_of}
use Rattle.sql_bound.specs.Targets.{constraint_bound}
use Rattle.sql_bound.specs.Trees.{of_expr}
use Rattle.bind_write.proofs.StepLaws.{comes-refused}
use Rattle.bind_write.proofs.ConstraintLaws.{constraint-made, constraint-refused}
use Rattle.bind_write.proofs.constraints.bind_constraint.Goals as goal

pub returns-in_err-a : goal.returns-in_err-a
returns-in_err-a c =
    comes-refused (constraint_bound (around_of c.args.catalog.now c.args.facts.now) c.args.text.now c.args.level c.args.allowed (of_expr c.args.e.now) c.args.work.now) c.from_residual-in_err-a.result c.bind.new.work c.in_err-a.field-0.0 (err_from_is_err_and c.from_residual-in_err-a.result c.from_residual-in_err-a.ensures.1)
    (constraint-refused c.args.catalog.now c.args.facts.now c.args.text.now c.args.level c.args.allowed c.args.e.now c.args.work.now c.of_text-scope.result c.as_slice.result.now c.of_text-scope.ensures (search rules) _ c.in_err-a.ensures)

pub returns : goal.returns
returns c =
    constraint-made c.args.catalog.now c.args.facts.now c.args.text.now c.args.level c.args.allowed c.args.e.now c.args.work.now c.of_text-scope.result c.as_slice.result.now c.of_text-scope.ensures (search rules)
    c.in_ok-a.a c.bind.new.work c.in_ok-a.ensures
