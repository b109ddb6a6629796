-- Worked sizes.
use Rattle.std.specs.Prelude.{◌≡◌, [], ◌∷◌, length, refl}
use Rattle.eng_value.specs.declared.affinity.Affinity.TheVariants as affinity
use Rattle.eng_value.specs.declared.operators.BinaryOperator.TheVariants as binary
use Rattle.eng_value.specs.declared.operators.Sides.{Sides}
use Rattle.eng_value.specs.declared.operators.UnaryOperator.TheVariants as unary
use Rattle.sql_words.specs.Collations.{by_bytes}
use Rattle.bound_tree.specs.Exprs as e
use Rattle.bound_tree.specs.Exprs.{BoundExpr}
use Rattle.bound_tree.specs.Conditions.{conditions_of}
use Rattle.bound_size.specs.Counts.{rows_size}
use Rattle.bound_size.specs.Sizes.{all_nodes, nodes_of}

abbrev sides : Sides
sides = record { left = affinity.None; right = affinity.None; collation = by_bytes }

abbrev column : BoundExpr
column = e.Column 0 1

-- `NOT (a AND ?1)`
an_operator_is_a_node : nodes_of (e.Unary unary.Not (e.Binary binary.And column (e.Parameter 1))) ≡ 4
an_operator_is_a_node = refl

-- `a IN (?1, ?2)`
so_is_each_member : nodes_of (e.In sides column (e.Parameter 1 ∷ e.Parameter 2 ∷ [])) ≡ 4
so_is_each_member = refl

-- `CASE WHEN a THEN ?1 ELSE ?2 END`
an_arm_is_one_too : nodes_of (e.Choose (record { condition = column; value = e.Parameter 1 } ∷ []) (e.Parameter 2)) ≡ 5
an_arm_is_one_too = refl

-- a query counts by what it is handed
a_query_is_what_it_is_handed : nodes_of (e.Scalar 7 (column ∷ column ∷ [])) ≡ 3
a_query_is_what_it_is_handed = refl

a_row_counts_beside_its_values : rows_size ((column ∷ column ∷ []) ∷ (column ∷ column ∷ []) ∷ []) ≡ 6
a_row_counts_beside_its_values = refl

-- `a BETWEEN ?1 AND ?2` is tested as `a >= ?1` and `a <= ?2`
a_between_is_two_tests : length (conditions_of (e.Between sides sides column (e.Parameter 1) (e.Parameter 2))) ≡ 2
a_between_is_two_tests = refl

of_which_each_has_three_nodes : all_nodes (conditions_of (e.Between sides sides column (e.Parameter 1) (e.Parameter 2))) ≡ 6
of_which_each_has_three_nodes = refl
