use Rattle.std.proofs.Common.{OnOk, subst}
use Rattle.bound_tree.specs.Exprs.{BoundExpr}
use Rattle.gen_expr.specs.Needs.{needs_of}
use Rattle.gen_expr.specs.Steps.{steps_of}
use Rattle.sql_meaning.specs.Expression.{value_of}
use Rattle.vm_code.specs.Frames.{Leaves, needing}
use Rattle.gen_expr.proofs.expressions.emit.Goals as goal

pub returns-clause-leaves : goal.returns-clause-leaves
returns-clause-leaves c =
    subst (λ (x : BoundExpr). OnOk c.emit.result (Leaves (needing (needs_of x)) c.args.b.now c.emit.new.b c.args.to (λ env. value_of x env) (λ env. steps_of x))) c.tree.ensures c.emit.ensures.leaves
