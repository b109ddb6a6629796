use Rattle.std.proofs.Common.{◌++◌, List, drop}
use Rattle.bound_tree.specs.Exprs.{BoundExpr}
use Rattle.bind_stmt.specs.Plain.{AreValues}
use Rattle.bind_stmt.proofs.plain_rows.values_of.Given as goal

abbrev pub invariant-loop-value : goal.invariant-loop-value
invariant-loop-value l = (more : List BoundExpr) → AreValues l.text (drop l.value-index l.row) more → AreValues l.text l.row (l.values.items ++ more)
