use Rattle.std.proofs.Common.{◌++◌, List, drop}
use Rattle.bound_tree.specs.Exprs.{BoundExpr}
use Rattle.bind_stmt.specs.Plain.{AreRows}
use Rattle.bind_stmt.proofs.plain_rows.rows_bound.Given as goal

abbrev pub invariant-loop-row : goal.invariant-loop-row
invariant-loop-row l = (more : List (List BoundExpr)) → AreRows l.text l.width (drop l.row-index l.rows) more → AreRows l.text l.width l.rows (l.made.items ++ more)
