-- How large arms and rows are.
use Rattle.std.specs.Prelude.{ℕ, ◌+◌, List, map}
use Rattle.sql_tree.specs.Sizes.{total}
use Rattle.bound_tree.specs.Exprs as e
use Rattle.bound_tree.specs.Exprs.{BoundExpr}
use Rattle.bound_size.specs.Sizes.{all_nodes, nodes_of}

-- ---- arms

abbrev pub nodes_of_arm : e.BoundArm → ℕ
nodes_of_arm arm = 1 + nodes_of arm.condition + nodes_of arm.value

abbrev pub nodes_of_match : e.BoundMatch → ℕ
nodes_of_match arm = 1 + nodes_of arm.operand + nodes_of arm.value

-- ---- rows

abbrev pub row_size : List BoundExpr → ℕ
row_size row = 1 + all_nodes row

abbrev pub rows_size : List (List BoundExpr) → ℕ
rows_size rows = total (map row_size rows)
