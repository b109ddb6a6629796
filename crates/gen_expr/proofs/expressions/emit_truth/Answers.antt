use Rattle.std.proofs.Common.{◌+◌, OnOk, subst}
use Rattle.bound_tree.specs.Exprs.{BoundExpr}
use Rattle.eng_value.specs.Truths.{truth_of}
use Rattle.gen_expr.specs.Needs.{needs_of}
use Rattle.gen_expr.specs.Steps.{steps_of}
use Rattle.sql_meaning.specs.Expression.{value_of}
use Rattle.vm_code.specs.Frames.{Leaves, needing}
use Rattle.gen_expr.proofs.expressions.emit_truth.Goals as goal

pub returns-clause-leaves : goal.returns-clause-leaves
returns-clause-leaves c =
    subst (λ (x : BoundExpr). OnOk c.emit_truth.result (Leaves (needing (needs_of x)) c.args.b.now c.emit_truth.new.b c.args.to (λ env. truth_of (value_of x env)) (λ env. steps_of x + 1))) c.tree.ensures c.emit_truth.ensures.leaves
