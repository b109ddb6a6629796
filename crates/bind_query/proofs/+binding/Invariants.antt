use Rattle.bind_query.specs.Results.{key_bound, other_bound, result_scope, rows_after, term_bound}
use Rattle.bind_query.specs.Scopes.{inside_of, own_of, scope_of}
use Rattle.bind_query.specs.Turns.{arm_bound, in_turn}
use Rattle.sql_bound.specs.Carriers.{Expression}
use Rattle.sql_bound.specs.Compounds.{others_bound, row_bound, values_bound}
use Rattle.sql_bound.specs.Cores.{keys_bound}
use Rattle.sql_bound.specs.Expressions.{all_bound, arms_bound}
use Rattle.sql_bound.specs.Froms.{items_found, nothing_found}
use Rattle.sql_bound.specs.Results.{nothing_shown, results_bound, shown_in}
use Rattle.sql_bound.specs.Trees.{of_arm, of_compound, of_expr, of_item, of_result, of_spanned, of_table, of_term}
use Rattle.sql_bound.specs.Withs.{tables_bound}
use Rattle.std.proofs.Common.{[], drop, map, ◌≡◌}
use Rattle.std.specs.Option.{option_copied}
use Rattle.bind_query.proofs.+binding.Given as goal

abbrev pub decreases-asking::ask : goal.decreases-asking::ask
decreases-asking::ask l = l.fuel

abbrev pub decreases-asking::bind_exists : goal.decreases-asking::bind_exists
decreases-asking::bind_exists l = l.fuel

abbrev pub decreases-asking::bind_scalar : goal.decreases-asking::bind_scalar
decreases-asking::bind_scalar l = l.fuel

abbrev pub decreases-asking::bind_in_query : goal.decreases-asking::bind_in_query
decreases-asking::bind_in_query l = l.fuel

abbrev pub decreases-binding::bind : goal.decreases-binding::bind
decreases-binding::bind l = l.fuel

abbrev pub decreases-binding::bind_unary : goal.decreases-binding::bind_unary
decreases-binding::bind_unary l = l.fuel

abbrev pub decreases-binding::bind_binary : goal.decreases-binding::bind_binary
decreases-binding::bind_binary l = l.fuel

abbrev pub decreases-binding::bind_between : goal.decreases-binding::bind_between
decreases-binding::bind_between l = l.fuel

abbrev pub decreases-binding::bind_like : goal.decreases-binding::bind_like
decreases-binding::bind_like l = l.fuel

abbrev pub decreases-binding::bind_in : goal.decreases-binding::bind_in
decreases-binding::bind_in l = l.fuel

abbrev pub decreases-binding::bind_collate : goal.decreases-binding::bind_collate
decreases-binding::bind_collate l = l.fuel

abbrev pub decreases-binding::bind_cast : goal.decreases-binding::bind_cast
decreases-binding::bind_cast l = l.fuel

abbrev pub decreases-binding::bind_case : goal.decreases-binding::bind_case
decreases-binding::bind_case l = l.fuel

abbrev pub decreases-binding::bind_option : goal.decreases-binding::bind_option
decreases-binding::bind_option l = l.fuel

abbrev pub decreases-binding::bind_all : goal.decreases-binding::bind_all
decreases-binding::bind_all l = l.fuel

abbrev pub decreases-binding::bind_arms : goal.decreases-binding::bind_arms
decreases-binding::bind_arms l = l.fuel

abbrev pub decreases-binding::bind_arm : goal.decreases-binding::bind_arm
decreases-binding::bind_arm l = l.fuel

abbrev pub decreases-calls::bind_call : goal.decreases-calls::bind_call
decreases-calls::bind_call l = l.fuel

abbrev pub decreases-calls::bind_called : goal.decreases-calls::bind_called
decreases-calls::bind_called l = l.fuel

abbrev pub decreases-calls::bind_function : goal.decreases-calls::bind_function
decreases-calls::bind_function l = l.fuel

abbrev pub decreases-calls::bind_host_function : goal.decreases-calls::bind_host_function
decreases-calls::bind_host_function l = l.fuel

abbrev pub decreases-calls::bind_aggregate : goal.decreases-calls::bind_aggregate
decreases-calls::bind_aggregate l = l.fuel

abbrev pub decreases-naming::column : goal.decreases-naming::column
decreases-naming::column l = l.fuel

abbrev pub decreases-naming::beside_own : goal.decreases-naming::beside_own
decreases-naming::beside_own l = l.fuel

abbrev pub invariant-binding::bind_all-loop-e : goal.invariant-binding::bind_all-loop-e
invariant-binding::bind_all-loop-e l =
    all_bound (scope_of l.scope l.levels l.tables) (map of_expr l.es) l.fn.work
    ≡ in_turn (λ (x : Expression). x.bound (scope_of l.scope l.levels l.tables)) (map of_expr (drop l.e-index l.es)) l.all l.work

abbrev pub invariant-binding::bind_arms-loop-arm : goal.invariant-binding::bind_arms-loop-arm
invariant-binding::bind_arms-loop-arm l =
    arms_bound (scope_of l.scope l.levels l.tables) (map of_arm l.arms) l.fn.work
    ≡ in_turn (arm_bound (scope_of l.scope l.levels l.tables)) (map of_arm (drop l.arm-index l.arms)) l.all l.work

abbrev pub decreases-froms::bind_items : goal.decreases-froms::bind_items
decreases-froms::bind_items l = l.fuel

abbrev pub decreases-froms::bind_item : goal.decreases-froms::bind_item
decreases-froms::bind_item l = l.fuel

abbrev pub decreases-froms::bind_source : goal.decreases-froms::bind_source
decreases-froms::bind_source l = l.fuel

abbrev pub decreases-froms::bind_derived : goal.decreases-froms::bind_derived
decreases-froms::bind_derived l = l.fuel

abbrev pub decreases-froms::bind_name : goal.decreases-froms::bind_name
decreases-froms::bind_name l = l.fuel

abbrev pub decreases-froms::bind_listed : goal.decreases-froms::bind_listed
decreases-froms::bind_listed l = l.fuel

abbrev pub decreases-froms::bind_entry : goal.decreases-froms::bind_entry
decreases-froms::bind_entry l = l.fuel

abbrev pub decreases-froms::bind_module_table : goal.decreases-froms::bind_module_table
decreases-froms::bind_module_table l = l.fuel

abbrev pub decreases-froms::bind_eponymous : goal.decreases-froms::bind_eponymous
decreases-froms::bind_eponymous l = l.fuel

abbrev pub decreases-froms::bind_module : goal.decreases-froms::bind_module
decreases-froms::bind_module l = l.fuel

abbrev pub decreases-froms::bind_plain_view : goal.decreases-froms::bind_plain_view
decreases-froms::bind_plain_view l = l.fuel

abbrev pub decreases-froms::bind_view : goal.decreases-froms::bind_view
decreases-froms::bind_view l = l.fuel

abbrev pub decreases-froms::join : goal.decreases-froms::join
decreases-froms::join l = l.fuel

abbrev pub decreases-froms::constrain : goal.decreases-froms::constrain
decreases-froms::constrain l = l.fuel

abbrev pub decreases-froms::bind_constraint : goal.decreases-froms::bind_constraint
decreases-froms::bind_constraint l = l.fuel

abbrev pub decreases-froms::bind_on : goal.decreases-froms::bind_on
decreases-froms::bind_on l = l.fuel

abbrev pub decreases-recursions::table_body : goal.decreases-recursions::table_body
decreases-recursions::table_body l = l.fuel

abbrev pub decreases-recursions::bind_plain : goal.decreases-recursions::bind_plain
decreases-recursions::bind_plain l = l.fuel

abbrev pub decreases-recursions::bind_recursion : goal.decreases-recursions::bind_recursion
decreases-recursions::bind_recursion l = l.fuel

abbrev pub decreases-recursions::bind_repeated : goal.decreases-recursions::bind_repeated
decreases-recursions::bind_repeated l = l.fuel

abbrev pub decreases-tables::bind_tables : goal.decreases-tables::bind_tables
decreases-tables::bind_tables l = l.fuel

abbrev pub decreases-tables::bind_next : goal.decreases-tables::bind_next
decreases-tables::bind_next l = l.fuel

abbrev pub decreases-tables::bind_table : goal.decreases-tables::bind_table
decreases-tables::bind_table l = l.fuel

abbrev pub decreases-tables::bind_as_table : goal.decreases-tables::bind_as_table
decreases-tables::bind_as_table l = l.fuel

abbrev pub decreases-tables::enter_table : goal.decreases-tables::enter_table
decreases-tables::enter_table l = l.fuel

abbrev pub decreases-tables::table_in : goal.decreases-tables::table_in
decreases-tables::table_in l = l.fuel

abbrev pub invariant-froms::bind_items-loop-item : goal.invariant-froms::bind_items-loop-item
invariant-froms::bind_items-loop-item l =
    items_found (inside_of l.scope l.levels l.tables) (option_copied l.queue) (map of_item l.from) nothing_found l.fn.work
    ≡ items_found (inside_of l.scope l.levels l.tables) (option_copied l.queue) (map of_item (drop l.item-index l.from)) l.found l.work

abbrev pub invariant-tables::bind_tables-loop-table : goal.invariant-tables::bind_tables-loop-table
invariant-tables::bind_tables-loop-table l =
    tables_bound (inside_of l.scope l.levels l.tables) [] (map of_table l.with) l.fn.units
    ≡ tables_bound (inside_of l.scope l.levels l.found.entries) l.found.places (map of_table (drop l.table-index l.with)) l.found.units

abbrev pub decreases-keys::bind_keys : goal.decreases-keys::bind_keys
decreases-keys::bind_keys l = l.fuel

abbrev pub decreases-keys::bind_key : goal.decreases-keys::bind_key
decreases-keys::bind_key l = l.fuel

abbrev pub decreases-keys::bind_numbered : goal.decreases-keys::bind_numbered
decreases-keys::bind_numbered l = l.fuel

abbrev pub decreases-orders::bind_order : goal.decreases-orders::bind_order
decreases-orders::bind_order l = l.fuel

abbrev pub decreases-orders::bind_terms : goal.decreases-orders::bind_terms
decreases-orders::bind_terms l = l.fuel

abbrev pub decreases-orders::bind_term : goal.decreases-orders::bind_term
decreases-orders::bind_term l = l.fuel

abbrev pub decreases-orders::bind_term_expression : goal.decreases-orders::bind_term_expression
decreases-orders::bind_term_expression l = l.fuel

abbrev pub decreases-parts::bind_parts : goal.decreases-parts::bind_parts
decreases-parts::bind_parts l = l.fuel

abbrev pub decreases-parts::bind_alone : goal.decreases-parts::bind_alone
decreases-parts::bind_alone l = l.fuel

abbrev pub decreases-parts::bind_select_alone : goal.decreases-parts::bind_select_alone
decreases-parts::bind_select_alone l = l.fuel

abbrev pub decreases-parts::bind_values_alone : goal.decreases-parts::bind_values_alone
decreases-parts::bind_values_alone l = l.fuel

abbrev pub decreases-parts::bind_compound : goal.decreases-parts::bind_compound
decreases-parts::bind_compound l = l.fuel

abbrev pub decreases-parts::bind_part : goal.decreases-parts::bind_part
decreases-parts::bind_part l = l.fuel

abbrev pub decreases-parts::bind_others : goal.decreases-parts::bind_others
decreases-parts::bind_others l = l.fuel

abbrev pub decreases-parts::bind_other : goal.decreases-parts::bind_other
decreases-parts::bind_other l = l.fuel

abbrev pub decreases-parts::bind_values : goal.decreases-parts::bind_values
decreases-parts::bind_values l = l.fuel

abbrev pub decreases-parts::bind_rows : goal.decreases-parts::bind_rows
decreases-parts::bind_rows l = l.fuel

abbrev pub decreases-parts::bind_row : goal.decreases-parts::bind_row
decreases-parts::bind_row l = l.fuel

abbrev pub decreases-queries::bind_query : goal.decreases-queries::bind_query
decreases-queries::bind_query l = l.fuel

abbrev pub decreases-queries::bind_entered : goal.decreases-queries::bind_entered
decreases-queries::bind_entered l = l.fuel

abbrev pub decreases-queries::bind_body : goal.decreases-queries::bind_body
decreases-queries::bind_body l = l.fuel

abbrev pub decreases-queries::bind_limit : goal.decreases-queries::bind_limit
decreases-queries::bind_limit l = l.fuel

abbrev pub decreases-queries::bind_count : goal.decreases-queries::bind_count
decreases-queries::bind_count l = l.fuel

abbrev pub decreases-queries::bind_offset : goal.decreases-queries::bind_offset
decreases-queries::bind_offset l = l.fuel

abbrev pub decreases-results::bind_results : goal.decreases-results::bind_results
decreases-results::bind_results l = l.fuel

abbrev pub decreases-results::bind_result : goal.decreases-results::bind_result
decreases-results::bind_result l = l.fuel

abbrev pub decreases-results::bind_shown : goal.decreases-results::bind_shown
decreases-results::bind_shown l = l.fuel

abbrev pub decreases-selects::bind_select : goal.decreases-selects::bind_select
decreases-selects::bind_select l = l.fuel

abbrev pub decreases-selects::bind_recursive_select : goal.decreases-selects::bind_recursive_select
decreases-selects::bind_recursive_select l = l.fuel

abbrev pub decreases-selects::bind_clauses : goal.decreases-selects::bind_clauses
decreases-selects::bind_clauses l = l.fuel

abbrev pub decreases-selects::bind_filter : goal.decreases-selects::bind_filter
decreases-selects::bind_filter l = l.fuel

abbrev pub decreases-selects::bind_having : goal.decreases-selects::bind_having
decreases-selects::bind_having l = l.fuel

abbrev pub invariant-results::bind_results-loop-column : goal.invariant-results::bind_results-loop-column
invariant-results::bind_results-loop-column l =
    results_bound (result_scope (scope_of l.scope l.levels l.tables) (own_of l.levels) l.grouped l.keys) (map of_result l.results) (nothing_shown, l.fn.work)
    ≡ results_bound (result_scope (scope_of l.scope l.levels l.tables) (own_of l.levels) l.grouped l.keys) (map of_result (drop l.column-index l.results)) (l.shown, l.work)

abbrev pub invariant-keys::bind_keys-loop-spanned : goal.invariant-keys::bind_keys-loop-spanned
invariant-keys::bind_keys-loop-spanned l =
    keys_bound (scope_of l.scope l.levels l.tables) (shown_in l.scope.text (own_of l.levels) (map of_result l.scope.results)) (map of_spanned l.group_by) l.fn.work
    ≡ in_turn (key_bound (scope_of l.scope l.levels l.tables) (shown_in l.scope.text (own_of l.levels) (map of_result l.scope.results))) (map of_spanned (drop l.spanned-index l.group_by)) l.keys l.work

abbrev pub invariant-orders::bind_terms-loop-term : goal.invariant-orders::bind_terms-loop-term
invariant-orders::bind_terms-loop-term l =
    in_turn (term_bound l.select (scope_of l.scope l.levels l.tables) (shown_in l.scope.text l.select.found.level (map of_result l.results))) (map of_term l.order) [] l.fn.work
    ≡ in_turn (term_bound l.select (scope_of l.scope l.levels l.tables) (shown_in l.scope.text l.select.found.level (map of_result l.results))) (map of_term (drop l.term-index l.order)) l.terms l.work

abbrev pub invariant-parts::bind_others-loop-other : goal.invariant-parts::bind_others-loop-other
invariant-parts::bind_others-loop-other l =
    others_bound (inside_of l.scope l.levels l.tables) l.columns (map of_compound l.others) l.fn.work
    ≡ in_turn (other_bound (inside_of l.scope l.levels l.tables) l.columns) (map of_compound (drop l.other-index l.others)) l.all l.work

abbrev pub invariant-parts::bind_rows-loop-row : goal.invariant-parts::bind_rows-loop-row
invariant-parts::bind_rows-loop-row l =
    values_bound (scope_of l.scope l.levels l.tables) (map (map of_expr) l.rows) l.fn.work
    ≡ rows_after (scope_of l.scope l.levels l.tables) (map (map of_expr) (drop l.row-index l.rows)) l.all l.work

abbrev pub invariant-parts::bind_row-loop-e : goal.invariant-parts::bind_row-loop-e
invariant-parts::bind_row-loop-e l =
    row_bound (scope_of l.scope l.levels l.tables) (map of_expr l.row) ([], l.fn.work)
    ≡ row_bound (scope_of l.scope l.levels l.tables) (map of_expr (drop l.e-index l.row)) (l.all, l.work)
