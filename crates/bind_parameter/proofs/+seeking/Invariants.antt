use Rattle.std.proofs.Common.{◌≡◌, drop, map}
use Rattle.std.specs.List.{list_any}
use Rattle.sql_bound.specs.Parameters.{expr_has_parameter}
use Rattle.bind_parameter.specs.Held.{arm_has, compound_has, item_has, result_has, spanned_has, table_has, term_has}
use Rattle.bind_parameter.proofs.+seeking.Given as goal

abbrev pub invariant-expressions::any_has-loop-e : goal.invariant-expressions::any_has-loop-e
invariant-expressions::any_has-loop-e l = list_any expr_has_parameter (drop l.e-index l.es) ≡ list_any expr_has_parameter l.es

abbrev pub invariant-expressions::any_arm_has-loop-arm : goal.invariant-expressions::any_arm_has-loop-arm
invariant-expressions::any_arm_has-loop-arm l = list_any arm_has (drop l.arm-index l.arms) ≡ list_any arm_has l.arms

abbrev pub invariant-queries::any_table_has-loop-table : goal.invariant-queries::any_table_has-loop-table
invariant-queries::any_table_has-loop-table l = list_any table_has (drop l.table-index l.tables) ≡ list_any table_has l.tables

abbrev pub invariant-queries::any_compound_has-loop-compound : goal.invariant-queries::any_compound_has-loop-compound
invariant-queries::any_compound_has-loop-compound l = list_any compound_has (drop l.compound-index l.compounds) ≡ list_any compound_has l.compounds

abbrev pub invariant-queries::any_result_has-loop-column : goal.invariant-queries::any_result_has-loop-column
invariant-queries::any_result_has-loop-column l = list_any result_has (drop l.column-index l.columns) ≡ list_any result_has l.columns

abbrev pub invariant-queries::any_spanned_has-loop-key : goal.invariant-queries::any_spanned_has-loop-key
invariant-queries::any_spanned_has-loop-key l = list_any spanned_has (drop l.key-index l.keys) ≡ list_any spanned_has l.keys

abbrev pub invariant-queries::any_item_has-loop-item : goal.invariant-queries::any_item_has-loop-item
invariant-queries::any_item_has-loop-item l = list_any item_has (drop l.item-index l.items) ≡ list_any item_has l.items

abbrev pub invariant-queries::any_term_has-loop-term : goal.invariant-queries::any_term_has-loop-term
invariant-queries::any_term_has-loop-term l = list_any term_has (drop l.term-index l.terms) ≡ list_any term_has l.terms

abbrev pub invariant-queries::part_has-loop-row : goal.invariant-queries::part_has-loop-row
invariant-queries::part_has-loop-row l = list_any (list_any expr_has_parameter) (drop l.row-index l.rows) ≡ list_any (list_any expr_has_parameter) l.rows
