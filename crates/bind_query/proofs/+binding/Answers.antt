use Rattle.bind_callee.specs.Meant.{aggregator_meant}
use Rattle.bind_query.proofs.AggregateSteps.{aggregate-made, args-refused, filter-refused}
use Rattle.bind_query.proofs.AnswerLaws.{refused-by}
use Rattle.bind_query.proofs.ClauseLaws.{clauses-having, clauses-keys, clauses-made, clauses-results, clauses-where, core-results, having-comes, having-is, keys-is, recursive-by, recursive-refused, results-is, select-by, select-refused, where-is}
use Rattle.bind_query.proofs.ExprSteps.{abort-comes, beside-none, beside-there, host-called, host-refused, ignore-comes}
use Rattle.bind_query.proofs.FromLaws.{item-constraint, item-join, table-is}
use Rattle.bind_query.proofs.LoopLaws.{items-step, tables-step, tables-stop}
use Rattle.bind_query.proofs.MeetLaws.{joined-is, view-plain}
use Rattle.bind_query.proofs.ModuleLaws.{item-by, module-made, module-refused, over-level}
use Rattle.bind_query.proofs.PartLaws.{alone-made, alone-refused, alone-unordered, others-turn, values-refused}
use Rattle.bind_query.proofs.QueryLaws.{limit-goes, query-goes, query-refused}
use Rattle.bind_query.proofs.RecursionLaws.{no-limit, no-order, no-select, no-width, repeated-is}
use Rattle.bind_query.proofs.ResultLaws.{all-goes, expression-comes, expression-refused, key-expression, key-numbered, keys-turn, met-Expression, numbered-column, numbered-expr, numbered-nothing, order-by, shown-full, shown-goes, shown-refused, table-goes, term-at, term-else, term-nowhere}
use Rattle.bind_query.proofs.SourceLaws.{constrained-by, named-by}
use Rattle.bind_query.proofs.TableLaws.{table-bottom, table-deeper, table-written, tables-more}
use Rattle.bind_query.proofs.TurnLaws.{all-turn, arms-turn}
use Rattle.bind_query.proofs.TurnedLaws.{turn-more, turn-refused}
use Rattle.bind_query.specs.Results.{key_bound, one_met, other_bound, result_scope, term_bound, term_by_expression}
use Rattle.bind_query.specs.Scopes.{inside_of, outer_of, own_of, scope_of, written_of}
use Rattle.bind_query.specs.Tables.{repeated_bound}
use Rattle.bind_query.specs.Turns.{arm_bound, in_turn}
use Rattle.bind_query.specs.Where.{Where}
use Rattle.bind_result.specs.Numbers.{binding_of}
use Rattle.bind_with.proofs.AnswerLaws.{answers-by, answers-made, comes-by, comes-made}
use Rattle.bind_with.specs.Items.{of_with_at}
use Rattle.bind_with.specs.Parts.{arguments_of}
use Rattle.bind_with.specs.Recursive.{recursive_of}
use Rattle.bind_with.specs.Units.{recursion_with}
use Rattle.bound_tree.specs.declared.units.BoundCompound.{BoundCompound}
use Rattle.bound_tree.specs.declared.units.BoundKey.{BoundKey}
use Rattle.sql_bound.specs.Carriers.{CompoundParts, Expression, SpannedExpression, Values}
use Rattle.sql_bound.specs.Compounds.{others_bound, part_bound, select_alone, width_fits}
use Rattle.sql_bound.specs.Cores.{clauses_bound, keys_bound, recursive_select_bound, select_bound}
use Rattle.sql_bound.specs.Expressions.{all_bound, arms_bound}
use Rattle.sql_bound.specs.Froms.{Inside, are_made, constrained, item_found, joined_to, module_source, of_module, of_name, of_source, with_item, without_arguments}
use Rattle.sql_bound.specs.HostFacts.{facts_of}
use Rattle.sql_bound.specs.Operands.{host_call_of}
use Rattle.sql_bound.specs.Orders.{limit_bound}
use Rattle.sql_bound.specs.Queries.{asked_as}
use Rattle.sql_bound.specs.Recursions.{recursive_in, table_bound, unordered}
use Rattle.sql_bound.specs.Results.{ShownResult, one_shown, shown_in, text_of}
use Rattle.sql_bound.specs.Scopes.{Scope, with_named}
use Rattle.sql_bound.specs.Trees.{of_arm, of_compound, of_constraint, of_core, of_expr, of_item, of_limit, of_result, of_source as source_of, of_spanned, of_table, of_term}
use Rattle.sql_bound.specs.Withs.{table_asked, tables_bound}
use Rattle.sql_bound.specs.declared.froms.Joining.{Joining}
use Rattle.sql_bound.specs.declared.froms.QueueTable.{QueueTable}
use Rattle.sql_bound.specs.declared.scopes.ArmOperands.{ArmOperands}
use Rattle.sql_bound.specs.declared.scopes.Operand.{Operand}
use Rattle.sql_words.specs.Spelled.{name_at}
use Rattle.sql_tree.specs.declared.expr.Expr.{Expr}
use Rattle.sql_tree.specs.declared.query.CommonTable.{CommonTable, out-CommonTable}
use Rattle.sql_tree.specs.declared.query.FromItem.{FromItem, out-FromItem}
use Rattle.sql_tree.specs.declared.query.OrderingTerm.{OrderingTerm}
use Rattle.sql_tree.specs.declared.query.Query.{out-Query}
use Rattle.std.proofs.Common.{Err, List, None, Ok, Some, [], ap, arith, codes, drop, inr, length, map, of_z, refl, rules, subst, sym, to_z, true, w32, ◌+◌, ◌<◌, ◌∙◌, ◌∷◌, ◌≡◌}
use Rattle.std.proofs.lemmas.Grind.{common_steps}
use Rattle.std.proofs.lemmas.List.{drop_more, length-map}
use Rattle.std.proofs.lemmas.Result.{err_from_is_err_and}
use Rattle.std.specs.Option.{option_copied, option_map}
use Rattle.bind_query.proofs.+binding.Goals as goal

pub binding::bind_all-loop-e-init : goal.binding::bind_all-loop-e-init
binding::bind_all-loop-e-init t c =
    let s = scope_of c.args.scope.now c.args.levels.now c.args.tables.now in
    let es = map of_expr c.args.es.now in
    subst (λ (so_far : List Operand). all_bound s es c.args.work.now ≡ in_turn (λ (x : Expression). x.bound s) es so_far c.args.work.now) (sym c.new-all.ensures) (all-turn s es c.args.work.now)

pub binding::bind_arms-loop-arm-init : goal.binding::bind_arms-loop-arm-init
binding::bind_arms-loop-arm-init t c =
    let s = scope_of c.args.scope.now c.args.levels.now c.args.tables.now in
    let arms = map of_arm c.args.arms.now in
    subst (λ (so_far : List ArmOperands). arms_bound s arms c.args.work.now ≡ in_turn (arm_bound s) arms so_far c.args.work.now) (sym c.new-all.ensures) (arms-turn s arms c.args.work.now)

pub binding::bind-returns-in-RaiseIgnore : goal.binding::bind-returns-in-RaiseIgnore
binding::bind-returns-in-RaiseIgnore t c = ignore-comes c.args.scope.now c.args.levels.now c.args.tables.now c.args.work.now c.args.e.now _ c.in-RaiseIgnore.is c.raise_ignore.ensures

pub binding::bind-returns-in-RaiseAbort : goal.binding::bind-returns-in-RaiseAbort
binding::bind-returns-in-RaiseAbort t c = abort-comes c.args.scope.now c.args.levels.now c.args.tables.now c.args.work.now c.args.e.now _ c.in-RaiseAbort.token c.in-RaiseAbort.is c.raise_abort.ensures

pub calls::bind_called-returns-in-HostFunction : goal.calls::bind_called-returns-in-HostFunction
calls::bind_called-returns-in-HostFunction t c =
    host-called (scope_of c.args.scope.now c.args.levels.now c.args.tables.now) c.args.how (map of_expr c.args.args.now) (option_map of_expr c.args.filter.now) c.args.work.now
    c.args.name c.args.called c.in-HostFunction.shown c.in-HostFunction.arity c.bind_host_function.result c.bind_host_function.new.work c.in-HostFunction.is
    (to_z w32 (of_z w32 c.in-HostFunction.arity)) (search rules) c.bind_host_function.ensures

pub calls::bind_host_function-returns-in_err-may_call_host : goal.calls::bind_host_function-returns-in_err-may_call_host
calls::bind_host_function-returns-in_err-may_call_host t c =
    let why = err_from_is_err_and c.from_residual-in_err-may_call_host.result c.from_residual-in_err-may_call_host.ensures.1 in
    rw (why.1, why.2)
    (host-refused (scope_of c.args.scope.now c.args.levels.now c.args.tables.now) c.args.how (map of_expr c.args.args.now) (option_map of_expr c.args.filter.now) c.args.work.now
    c.args.scope.now.allowed.hosts c.args.shown c.args.arity (host_call_of c.args.shown) _ (search rules)
    c.as_str-2.result.now (search rules) (to_z w32 (of_z w32 c.args.arity)) (search rules) (length c.args.args.now) (sym (length-map c.args.args.now of_expr)) c.in_err-may_call_host.ensures)

pub calls::bind_aggregate-returns-in_err-args : goal.calls::bind_aggregate-returns-in_err-args
calls::bind_aggregate-returns-in_err-args t c =
    let why = err_from_is_err_and c.from_residual-in_err-args.result c.from_residual-in_err-args.ensures.1 in
    rw (why.1, why.2) (args-refused c.args.scope.now c.args.levels.now c.args.tables.now (aggregator_meant c.args.a) c.args.how (map of_expr c.args.args.now) (option_map of_expr c.args.filter.now) c.args.work.now
    c.within_aggregate-within.result c.within_aggregate-within.ensures c.in_ok-may_aggregate.field-0 (length c.args.args.now) (length-map c.args.args.now of_expr) _ c.scope.view_is c.in_ok-may_aggregate.ensures _ c.in_err-args.ensures)

pub calls::bind_aggregate-returns-in_err-filter : goal.calls::bind_aggregate-returns-in_err-filter
calls::bind_aggregate-returns-in_err-filter t c =
    let why = err_from_is_err_and c.from_residual-in_err-filter.result c.from_residual-in_err-filter.ensures.1 in
    rw (why.1, why.2) (filter-refused c.args.scope.now c.args.levels.now c.args.tables.now (aggregator_meant c.args.a) c.args.how (map of_expr c.args.args.now) (option_map of_expr c.args.filter.now) c.args.work.now
    c.within_aggregate-within.result c.within_aggregate-within.ensures c.in_ok-may_aggregate.field-0 (length c.args.args.now) (length-map c.args.args.now of_expr) _ c.scope.view_is c.in_ok-may_aggregate.ensures _ _ c.in_ok-args.ensures _ c.in_err-filter.ensures)

pub calls::bind_aggregate-returns : goal.calls::bind_aggregate-returns
calls::bind_aggregate-returns t c =
    aggregate-made c.args.scope.now c.args.levels.now c.args.tables.now (aggregator_meant c.args.a) c.args.how (map of_expr c.args.args.now) (option_map of_expr c.args.filter.now) c.args.work.now
    c.within_aggregate-within.result c.within_aggregate-within.ensures c.in_ok-may_aggregate.field-0 (length c.args.args.now) (length-map c.args.args.now of_expr) _ c.scope.view_is c.in_ok-may_aggregate.ensures _ _ c.in_ok-args.ensures _ _ _ _ c.in_ok-filter.ensures c.with_slot.ensures

pub naming::beside_own-returns-in-Some : goal.naming::beside_own-returns-in-Some
naming::beside_own-returns-in-Some t c =
    beside-there c.args.scope.now c.args.levels.now c.args.tables.now c.args.name.now c.args.work.now c.in-Some.e.now _ _ _ (search rules) (search rules) c.bind.ensures

pub naming::beside_own-returns-in-None : goal.naming::beside_own-returns-in-None
naming::beside_own-returns-in-None t c =
    beside-none c.args.scope.now c.args.levels.now c.args.tables.now c.args.name.now c.args.work.now _ _ (search rules) c.outer_column.ensures

pub froms::bind_items-loop-item-preserved : goal.froms::bind_items-loop-item-preserved
froms::bind_items-loop-item-preserved t c =
    let i = inside_of c.args.scope.now c.args.levels.now c.args.tables.now in
    let queue = option_copied c.args.queue in
    let found = c.loop-item.found in
    let work = c.loop-item.work in
    c.loop-item.invariant
    ∙ items-step i queue c.args.from.now c.loop-item.item-index c.item-item.result found work c.loop-item-test.true c.in_ok-found.found c.bind_item.new.work
    (ap (λ (item : FromItem). item_found i queue (of_item item) found work) (sym c.item-item.is) ∙ c.in_ok-found.ensures)

pub froms::bind_name-returns-in_ok-no_arguments-in-Some : goal.froms::bind_name-returns-in_ok-no_arguments-in-Some
froms::bind_name-returns-in_ok-no_arguments-in-Some t c =
    let i = inside_of c.args.scope.now c.args.levels.now c.args.tables.now in
    let queue = option_copied c.args.queue in
    let args = map of_expr c.args.arguments.now in
    let named = with_named c.args.name.now c.args.tables.now in
    let table = c.in-Some.table.now in
    let none : without_arguments table.name args ≡ Ok tt = search rules in
    let is : named ≡ Some table = search rules in
    comes-by (of_name i queue c.args.name.now named args c.args.found.now c.args.work.now) (of_with_at (length c.args.levels.now) queue table table.meaning c.args.found.now c.args.work.now)
    c.table_of_with.result _ (named-by i queue c.args.name.now named table args c.args.found.now c.args.work.now is none) (search rules)

pub froms::bind_entry-returns-in-View : goal.froms::bind_entry-returns-in-View
froms::bind_entry-returns-in-View t c = rw c.in-View.is (c.bind_plain_view.ensures c.args.levels.now c.args.tables.now c.args.found.now)

pub froms::bind_entry-returns-in-Module : goal.froms::bind_entry-returns-in-Module
froms::bind_entry-returns-in-Module t c = rw c.in-Module.is (c.bind_module_table.ensures c.args.name.now)

pub froms::bind_source-returns-in_ok-called-in-Table : goal.froms::bind_source-returns-in_ok-called-in-Table
froms::bind_source-returns-in_ok-called-in-Table t c =
    let i = inside_of c.args.scope.now c.args.levels.now c.args.tables.now in
    let queue = option_copied c.args.queue in
    let name = c.as_str.result.now in
    let called : name ≡ name_at c.args.scope.now.text c.in-Table.token = search rules in
    let args : c.arguments_in.result.now ≡ arguments_of c.in-Table.arguments = search rules in
    comes-by (of_source i queue (source_of c.args.source.now) c.args.found.now c.args.work.now) (of_name i queue name (with_named name c.args.tables.now) (map of_expr c.arguments_in.result.now) c.args.found.now c.args.work.now)
    c.bind_name.result c.bind_name.new.work
    (table-is i queue c.args.found.now c.args.work.now c.args.source.now c.in-Table.token c.in-Table.arguments name c.in-Table.is called
    ∙ ap (λ (xs : List Expr). of_name i queue name (with_named name c.args.tables.now) (map of_expr xs) c.args.found.now c.args.work.now) (sym args))
    c.bind_name.ensures

pub froms::bind_plain_view-returns : goal.froms::bind_plain_view-returns
froms::bind_plain_view-returns t c =
    let none : without_arguments c.args.entry.now.name (map of_expr c.args.arguments.now) ≡ Ok tt = search rules in
    λ ls ts f. view-plain c.args.scope.now ls ts c.args.name.now c.args.entry.now (map of_expr c.args.arguments.now) f c.args.work.now _ c.bind_view.result none c.bind_view.ensures

pub froms::bind_entry-returns-in-Table : goal.froms::bind_entry-returns-in-Table
froms::bind_entry-returns-in-Table t c =
    rw c.in-Table.is (c.plain_table.ensures (inside_of c.args.scope.now c.args.levels.now c.args.tables.now) c.args.found.now c.args.work.now (search rules))

pub froms::join-returns : goal.froms::join-returns
froms::join-returns t c =
    let i = inside_of c.args.scope.now c.args.levels.now c.args.tables.now in
    let item = of_item c.args.item.now in
    let joining : Joining = record { right = c.in_ok-right.right; ons = c.new.result } in
    comes-made (joined_to i item c.args.called c.args.sourced c.args.found c.args.work.now) (with_item item c.args.called c.args.sourced c.args.found c.in_ok-joining.joining) c.with_item.result c.constrain.new.work
    (joined-is i item c.args.called c.args.sourced c.args.found joining c.args.work.now (search rules) c.in_ok-joining.joining c.constrain.new.work (search rules))
    (c.with_item.ensures.ok item (search (rules, item-join)) (ap are_made (item-constraint c.args.item.now) ∙ sym c.is_made.ensures))
    c.with_item.ensures.mem

pub tables::bind_as_table-returns-in-Some : goal.tables::bind_as_table-returns-in-Some
tables::bind_as_table-returns-in-Some t c =
    rw (table-deeper (written_of c.args.query.now) c.args.name.now c.args.names.now c.args.scope.now c.args.levels.now c.args.tables.now c.args.units c.in-Some.depth (search rules)) c.enter_table.ensures

pub tables::bind_as_table-returns-in-None : goal.tables::bind_as_table-returns-in-None
tables::bind_as_table-returns-in-None t c =
    rw (table-bottom (written_of c.args.query.now) c.args.name.now c.args.names.now c.args.scope.now c.args.levels.now c.args.tables.now c.args.units (search rules)) (inr refl)

pub recursions::table_body-returns-in-Some : goal.recursions::table_body-returns-in-Some
recursions::table_body-returns-in-Some t c =
    let others = (out-Query c.args.query.now).others in
    let found = rw c.as_slice.ensures at (c.in_ok-found.ensures.ok (outer_of c.args.scope.now c.args.levels.now c.args.tables.now) (search rules) (search rules)) in
    let is : recursive_in (outer_of c.args.scope.now c.args.levels.now c.args.tables.now) c.args.name.now (map of_compound others) ≡ Some (recursive_of others c.in-Some.core.now) =
    found ∙ ap (λ core. option_map (recursive_of others) (option_copied core)) c.in-Some.is in
    rw is c.bind_recursion.ensures

pub recursions::table_body-returns-in-None : goal.recursions::table_body-returns-in-None
recursions::table_body-returns-in-None t c =
    let others = (out-Query c.args.query.now).others in
    let found = rw c.as_slice.ensures at (c.in_ok-found.ensures.ok (outer_of c.args.scope.now c.args.levels.now c.args.tables.now) (search rules) (search rules)) in
    let is : recursive_in (outer_of c.args.scope.now c.args.levels.now c.args.tables.now) c.args.name.now (map of_compound others) ≡ None =
    found ∙ ap (λ core. option_map (recursive_of others) (option_copied core)) c.in-None.is in
    rw is c.bind_plain.ensures

pub froms::constrain-returns-then-item : goal.froms::constrain-returns-then-item
froms::constrain-returns-then-item t c =
    let i = inside_of c.args.scope.now c.args.levels.now c.args.tables.now in
    let left = c.args.found.now.level in
    let item = c.args.item.now in
    comes-by (constrained i left (of_item item).join.natural (of_item item).constraint c.args.joining c.args.work.now) (constrained i left true (of_constraint (out-FromItem item).constraint) c.args.joining c.args.work.now)
    c.natural_join.result c.args.work.now (constrained-by i left item true c.args.joining c.args.work.now c.if-item.true) (rw c.as_slice.ensures at (c.natural_join.ensures i c.args.work.now))

pub froms::bind_item-returns : goal.froms::bind_item-returns
froms::bind_item-returns t c =
    let i = inside_of c.args.scope.now c.args.levels.now c.args.tables.now in
    let queue = option_copied c.args.queue in
    let item = c.args.item.now in
    let called = c.in_ok-called.called in
    let sourced = c.in_ok-sourced.sourced in
    let work = c.bind_source.new.work in
    comes-by (item_found i queue (of_item item) c.args.found c.args.work.now) (joined_to i (of_item item) called sourced c.args.found work) c.join.result c.join.new.work
    (item-by i queue c.args.found c.args.work.now item sourced work called (search rules) (search rules) (search rules)) c.join.ensures

pub froms::bind_module-returns : goal.froms::bind_module-returns
froms::bind_module-returns t c =
    let i = inside_of c.args.scope.now c.args.levels.now c.args.tables.now in
    let args = map of_expr c.args.arguments.now in
    let over = over-level c.args.scope.now c.clause-inner.result c.args.levels.now c.as_slice-3.result.now c.args.tables.now c.args.found.now.level (search rules) (search rules) in
    comes-made (of_module i c.args.shown.now c.args.name.now c.args.table args c.args.found.now c.args.work.now) (module_source c.in_ok-shown.shown c.in_ok-name.name c.args.table c.as_slice-4.result.now c.in_ok-trees.trees) c.module_source.result c.bind_all.new.work
    (module-made i c.args.shown.now c.args.name.now c.args.table args c.args.found.now c.args.work.now c.in_ok-columns.columns.now (search rules) (search rules) c.in_ok-operands.operands c.bind_all.new.work c.in_ok-shown.shown c.in_ok-name.name c.as_slice-4.result.now c.in_ok-trees.trees
    (ap (λ (s : Scope). all_bound s args c.args.work.now) (sym over) ∙ c.in_ok-operands.ensures) (search rules) (search rules) (search rules) (search rules))
    c.module_source.ensures.ok c.module_source.ensures.mem

pub froms::bind_module-returns-in_err-operands : goal.froms::bind_module-returns-in_err-operands
froms::bind_module-returns-in_err-operands t c =
    let i = inside_of c.args.scope.now c.args.levels.now c.args.tables.now in
    let args = map of_expr c.args.arguments.now in
    let over = over-level c.args.scope.now c.clause-inner.result c.args.levels.now c.as_slice-3.result.now c.args.tables.now c.args.found.now.level (search rules) (search rules) in
    let why = c.in_err-operands.field-0.0 in
    let refused : all_bound (scope_of c.clause-inner.result c.as_slice-3.result.now c.args.tables.now) args c.args.work.now ≡ Err why → of_module i c.args.shown.now c.args.name.now c.args.table args c.args.found.now c.args.work.now ≡ Err why = λ h.
    module-refused i c.args.shown.now c.args.name.now c.args.table args c.args.found.now c.args.work.now c.in_ok-columns.columns.now (search rules) (search rules) why (ap (λ (s : Scope). all_bound s args c.args.work.now) (sym over) ∙ h) in
    grind (arith, common_steps, refused)

pub tables::bind_tables-loop-table-preserved : goal.tables::bind_tables-loop-table-preserved
tables::bind_tables-loop-table-preserved t c =
    let w = c.args.scope.now in
    let ls = c.args.levels.now in
    let found = c.loop-table.found in
    let next = c.in_ok-found.found in
    c.loop-table.invariant
    ∙ tables-step (inside_of w ls found.entries) found.places c.args.with.now c.loop-table.table-index c.table-item.result found.units c.loop-table-test.true (inside_of w ls next.entries) next.places next.units
    (ap (λ (t : CommonTable). tables_bound (inside_of w ls found.entries) found.places (of_table t ∷ []) found.units) (sym c.table-item.is) ∙ c.in_ok-found.ensures)

pub tables::bind_table-returns : goal.tables::bind_table-returns
tables::bind_table-returns t c =
    let w = c.args.scope.now in
    let table = c.args.table.now in
    let q = (out-CommonTable table).query in
    answers-by (table_asked (inside_of w c.args.levels.now c.args.tables.now) (of_table table) c.args.units) (table_bound (written_of q) c.in_ok-called.called c.in_ok-names.names (outer_of w c.in_ok-levels.levels c.args.tables.now) c.args.units) c.bind_as_table.result
    (table-written w c.args.levels.now c.args.tables.now table c.args.units c.in_ok-called.called c.in_ok-names.names c.in_ok-levels.levels (search rules) (search rules) (search rules) (search rules)) (search rules)

pub tables::bind_next-returns : goal.tables::bind_next-returns
tables::bind_next-returns t c =
    let found = c.args.found in
    tables-more c.args.scope.now c.args.levels.now found.entries c.args.table.now found.units found.places (c.in_ok-asked.asked, c.in_ok-asked.units) c.in_ok-entries.entries c.pushed.new.all (search rules) (search rules) (search rules)

pub tables::bind_tables-returns-in_err-found : goal.tables::bind_tables-returns-in_err-found
tables::bind_tables-returns-in_err-found t c =
    let w = c.args.scope.now in
    let ls = c.args.levels.now in
    let found = c.loop-table.found in
    let why = c.in_err-found.field-0.0 in
    let refused : tables_bound (inside_of w ls found.entries) found.places (of_table c.table-item.result ∷ []) found.units ≡ Err why → tables_bound (inside_of w ls c.args.tables.now) [] (map of_table c.args.with.now) c.args.units ≡ Err why = λ h.
    c.loop-table.invariant
    ∙ tables-stop (inside_of w ls found.entries) found.places c.args.with.now c.loop-table.table-index c.table-item.result found.units c.loop-table-test.true why
    (ap (λ (t : CommonTable). tables_bound (inside_of w ls found.entries) found.places (of_table t ∷ []) found.units) (sym c.table-item.is) ∙ h) in
    grind (arith, common_steps, refused)

pub recursions::bind_repeated-returns-in_err-select : goal.recursions::bind_repeated-returns-in_err-select
recursions::bind_repeated-returns-in_err-select t c =
    let i = inside_of c.args.scope.now c.args.levels.now c.args.tables.now in
    let q = written_of c.args.query.now in
    let r = recursive_of (out-Query c.args.query.now).others c.args.core.now in
    let queue : c.in_ok-queue.queue ≡ record { name = c.args.name.now; columns = c.args.columns } = search rules in
    let why = c.in_err-select.field-0.0 in
    let refused : recursive_select_bound i c.in_ok-queue.queue r.core c.args.work ≡ Err why → repeated_bound i c.args.places c.args.name.now q r c.args.first c.args.others c.args.columns c.args.work ≡ Err why = λ h. no-select i c.args.places c.args.name.now q r c.args.first c.args.others c.args.columns c.args.work why (ap (λ (t : QueueTable). recursive_select_bound i t r.core c.args.work) (sym queue) ∙ h) in
    grind (arith, common_steps, refused)

pub recursions::bind_repeated-returns-in_err-width_fits : goal.recursions::bind_repeated-returns-in_err-width_fits
recursions::bind_repeated-returns-in_err-width_fits t c =
    let i = inside_of c.args.scope.now c.args.levels.now c.args.tables.now in
    let q = written_of c.args.query.now in
    let r = recursive_of (out-Query c.args.query.now).others c.args.core.now in
    let queue : c.in_ok-queue.queue ≡ record { name = c.args.name.now; columns = c.args.columns } = search rules in
    let s = c.in_ok-select.select in
    let v = c.bind_recursive_select.new.work in
    let selected : recursive_select_bound i (record { name = c.args.name.now; columns = c.args.columns }) r.core c.args.work ≡ Ok (s, v) = ap (λ (t : QueueTable). recursive_select_bound i t r.core c.args.work) (sym queue) ∙ c.in_ok-select.ensures in
    let why = c.in_err-width_fits.field-0.0 in
    let refused : width_fits (codes "SELECT") (length c.args.columns) (length s.shown.columns) ≡ Err why → repeated_bound i c.args.places c.args.name.now q r c.args.first c.args.others c.args.columns c.args.work ≡ Err why = λ h. no-width i c.args.places c.args.name.now q r c.args.first c.args.others c.args.columns c.args.work s v selected why h in
    grind (arith, common_steps, refused)

pub recursions::bind_repeated-returns-in_err-unordered : goal.recursions::bind_repeated-returns-in_err-unordered
recursions::bind_repeated-returns-in_err-unordered t c =
    let i = inside_of c.args.scope.now c.args.levels.now c.args.tables.now in
    let q = written_of c.args.query.now in
    let r = recursive_of (out-Query c.args.query.now).others c.args.core.now in
    let queue : c.in_ok-queue.queue ≡ record { name = c.args.name.now; columns = c.args.columns } = search rules in
    let s = c.in_ok-select.select in
    let v = c.bind_recursive_select.new.work in
    let selected : recursive_select_bound i (record { name = c.args.name.now; columns = c.args.columns }) r.core c.args.work ≡ Ok (s, v) = ap (λ (t : QueueTable). recursive_select_bound i t r.core c.args.work) (sym queue) ∙ c.in_ok-select.ensures in
    let wide : width_fits (codes "SELECT") (length c.args.columns) (length s.shown.columns) ≡ Ok tt = search rules in
    let why = c.in_err-unordered.field-0.0 in
    let refused : unordered c.args.name.now q.order ≡ Err why → repeated_bound i c.args.places c.args.name.now q r c.args.first c.args.others c.args.columns c.args.work ≡ Err why = λ h. no-order i c.args.places c.args.name.now q r c.args.first c.args.others c.args.columns c.args.work s v selected wide why h in
    grind (arith, common_steps, refused)

pub recursions::bind_repeated-returns-in_err-limit : goal.recursions::bind_repeated-returns-in_err-limit
recursions::bind_repeated-returns-in_err-limit t c =
    let i = inside_of c.args.scope.now c.args.levels.now c.args.tables.now in
    let q = written_of c.args.query.now in
    let r = recursive_of (out-Query c.args.query.now).others c.args.core.now in
    let queue : c.in_ok-queue.queue ≡ record { name = c.args.name.now; columns = c.args.columns } = search rules in
    let s = c.in_ok-select.select in
    let v = c.bind_recursive_select.new.work in
    let selected : recursive_select_bound i (record { name = c.args.name.now; columns = c.args.columns }) r.core c.args.work ≡ Ok (s, v) = ap (λ (t : QueueTable). recursive_select_bound i t r.core c.args.work) (sym queue) ∙ c.in_ok-select.ensures in
    let wide : width_fits (codes "SELECT") (length c.args.columns) (length s.shown.columns) ≡ Ok tt = search rules in
    let plain : unordered c.args.name.now q.order ≡ Ok tt = search rules in
    let why = c.in_err-limit.field-0.0 in
    let refused : limit_bound i.outer q.limit c.core_given.new.work ≡ Err why → repeated_bound i c.args.places c.args.name.now q r c.args.first c.args.others c.args.columns c.args.work ≡ Err why = λ h. no-limit i c.args.places c.args.name.now q r c.args.first c.args.others c.args.columns c.args.work s v selected wide plain c.in_ok-part.part c.in_ok-part.shown c.core_given.new.work c.in_ok-part.ensures why h in
    grind (arith, common_steps, refused)

pub recursions::bind_repeated-returns : goal.recursions::bind_repeated-returns
recursions::bind_repeated-returns t c =
    let i = inside_of c.args.scope.now c.args.levels.now c.args.tables.now in
    let q = written_of c.args.query.now in
    let r = recursive_of (out-Query c.args.query.now).others c.args.core.now in
    let queue : c.in_ok-queue.queue ≡ record { name = c.args.name.now; columns = c.args.columns } = search rules in
    let s = c.in_ok-select.select in
    let v = c.bind_recursive_select.new.work in
    let selected : recursive_select_bound i (record { name = c.args.name.now; columns = c.args.columns }) r.core c.args.work ≡ Ok (s, v) = ap (λ (t : QueueTable). recursive_select_bound i t r.core c.args.work) (sym queue) ∙ c.in_ok-select.ensures in
    let wide : width_fits (codes "SELECT") (length c.args.columns) (length s.shown.columns) ≡ Ok tt = search rules in
    let plain : unordered c.args.name.now q.order ≡ Ok tt = search rules in
    let x = c.bind_limit.new.work in
    answers-made (repeated_bound i c.args.places c.args.name.now q r c.args.first c.args.others c.args.columns c.args.work)
    (asked_as (recursion_with c.args.scope.now.within (length x.needs) c.args.places c.args.first c.args.others c.args.columns c.is_last_all-all.result c.in_ok-part.part c.in_ok-part.shown c.in_ok-limit.limit) c.args.columns x)
    c.recursion_unit.result
    (repeated-is i c.args.places c.args.name.now q r c.args.first c.args.others c.args.columns c.args.work s v selected wide plain c.in_ok-part.part c.in_ok-part.shown c.core_given.new.work c.in_ok-part.ensures c.in_ok-limit.limit x c.args.scope.now.within c.is_last_all-all.result c.in_ok-limit.ensures refl (search rules))
    c.recursion_unit.ensures.ok c.recursion_unit.ensures.mem

pub keys::bind_keys-loop-spanned-init : goal.keys::bind_keys-loop-spanned-init
keys::bind_keys-loop-spanned-init t c =
    let s : Scope = scope_of c.args.scope.now c.args.levels.now c.args.tables.now in
    let shown : List ShownResult = shown_in c.args.scope.now.text (own_of c.args.levels.now) (map of_result c.args.scope.now.results) in
    let xs : List SpannedExpression = map of_spanned c.args.group_by.now in
    subst (λ (so_far : List BoundKey). keys_bound s shown xs c.args.work.now ≡ in_turn (key_bound s shown) xs so_far c.args.work.now) (sym c.new-keys.ensures) (keys-turn s shown xs c.args.work.now)

pub parts::bind_others-loop-other-init : goal.parts::bind_others-loop-other-init
parts::bind_others-loop-other-init t c =
    let i : Inside = inside_of c.args.scope.now c.args.levels.now c.args.tables.now in
    let cs : List CompoundParts = map of_compound c.args.others.now in
    subst (λ (so_far : List BoundCompound). others_bound i c.args.columns.now cs c.args.work.now ≡ in_turn (other_bound i c.args.columns.now) cs so_far c.args.work.now) (sym c.new-all.ensures)
    (others-turn i c.args.columns.now cs c.args.work.now)

pub selects::bind_select-returns-in_err-found : goal.selects::bind_select-returns-in_err-found
selects::bind_select-returns-in_err-found t c =
    let why = err_from_is_err_and c.from_residual-in_err-found.result c.from_residual-in_err-found.ensures.1 in
    rw (why.1, why.2)
    (refused-by _ (select_bound (inside_of c.args.scope.now c.args.levels.now c.args.tables.now) (of_core c.args.core.now) c.args.ordered c.args.work.now) _
    (select-refused c.args.scope.now c.args.levels.now c.args.tables.now c.args.core.now c.as_slice.result.now c.args.work.now c.as_slice.ensures _ c.args.ordered) c.in_err-found.ensures)

pub selects::bind_select-returns : goal.selects::bind_select-returns
selects::bind_select-returns t c =
    rw
    (select-by c.args.scope.now c.args.levels.now c.args.tables.now c.args.core.now c.as_slice.result.now c.args.work.now c.as_slice.ensures _ _ _ c.args.ordered c.in_ok-found.ensures
    (c.in_ok-grouped.ensures.ok (outer_of c.args.scope.now c.args.levels.now c.args.tables.now) (ap (λ (s : Where). s.text) (sym c.scope.view_is)) (ap (λ (s : Where). facts_of s.facts) (sym c.scope.view_is))))
    c.bind_clauses.ensures

pub selects::bind_recursive_select-returns-in_err-found : goal.selects::bind_recursive_select-returns-in_err-found
selects::bind_recursive_select-returns-in_err-found t c =
    let why = err_from_is_err_and c.from_residual-in_err-found.result c.from_residual-in_err-found.ensures.1 in
    rw (why.1, why.2)
    (refused-by _ (recursive_select_bound (inside_of c.args.scope.now c.args.levels.now c.args.tables.now) c.args.queue.now (of_core c.args.core.now) c.args.work.now) _
    (recursive-refused c.args.scope.now c.args.levels.now c.args.tables.now c.args.core.now c.as_slice.result.now c.args.work.now c.as_slice.ensures _ c.args.queue.now) c.in_err-found.ensures)

pub selects::bind_recursive_select-returns : goal.selects::bind_recursive_select-returns
selects::bind_recursive_select-returns t c =
    rw
    (recursive-by c.args.scope.now c.args.levels.now c.args.tables.now c.args.core.now c.as_slice.result.now c.args.work.now c.as_slice.ensures _ _ _ c.args.queue.now c.in_ok-found.ensures
    (c.in_ok-grouped.ensures.ok (outer_of c.args.scope.now c.args.levels.now c.args.tables.now) (ap (λ (s : Where). s.text) (sym c.scope.view_is)) (ap (λ (s : Where). facts_of s.facts) (sym c.scope.view_is))))
    c.bind_clauses.ensures

pub selects::bind_clauses-returns-in_err-conjuncts : goal.selects::bind_clauses-returns-in_err-conjuncts
selects::bind_clauses-returns-in_err-conjuncts t c =
    let why = err_from_is_err_and c.from_residual-in_err-conjuncts.result c.from_residual-in_err-conjuncts.ensures.1 in
    rw (why.1, why.2)
    (refused-by _ (clauses_bound c.args.standing (outer_of c.args.scope.now c.args.levels.now c.args.tables.now) (of_core c.args.core.now) c.args.grouped c.args.found c.args.work.now) _
    (λ h. clauses-where c.args.standing c.args.scope.now c.args.levels.now c.args.tables.now c.args.core.now c.args.grouped c.args.found c.args.work.now _
    (where-is c.args.standing c.args.scope.now c.args.levels.now c.args.tables.now c.args.core.now c.args.grouped c.args.found c.as_slice-2.result.now (c.as_slice-2.ensures ∙ c.in_ok-levels.ensures.ok)
    c.as_slice.result.now c.clause-clause.result _ _ c.as_slice.ensures c.clause-clause.ensures h)) c.in_err-conjuncts.ensures)

pub selects::bind_clauses-returns-in_err-keys : goal.selects::bind_clauses-returns-in_err-keys
selects::bind_clauses-returns-in_err-keys t c =
    let why = err_from_is_err_and c.from_residual-in_err-keys.result c.from_residual-in_err-keys.ensures.1 in
    rw (why.1, why.2)
    (refused-by _ (clauses_bound c.args.standing (outer_of c.args.scope.now c.args.levels.now c.args.tables.now) (of_core c.args.core.now) c.args.grouped c.args.found c.args.work.now) _
    (λ h. clauses-keys c.args.standing c.args.scope.now c.args.levels.now c.args.tables.now c.args.core.now c.args.grouped c.args.found c.args.work.now _ _
    (where-is c.args.standing c.args.scope.now c.args.levels.now c.args.tables.now c.args.core.now c.args.grouped c.args.found c.as_slice-2.result.now (c.as_slice-2.ensures ∙ c.in_ok-levels.ensures.ok)
    c.as_slice.result.now c.clause-clause.result _ _ c.as_slice.ensures c.clause-clause.ensures c.in_ok-conjuncts.ensures) _
    (keys-is c.args.standing c.args.scope.now c.args.levels.now c.args.tables.now c.args.core.now c.args.grouped c.args.found c.as_slice-3.result.now (c.as_slice-3.ensures ∙ c.in_ok-levels.ensures.ok)
    c.as_slice.result.now c.as_slice-4.result.now c.clause-clause.result _ _ c.as_slice-4.ensures c.as_slice.ensures c.clause-clause.ensures h)) c.in_err-keys.ensures)

pub selects::bind_clauses-returns-in_err-having : goal.selects::bind_clauses-returns-in_err-having
selects::bind_clauses-returns-in_err-having t c =
    let why = err_from_is_err_and c.from_residual-in_err-having.result c.from_residual-in_err-having.ensures.1 in
    rw (why.1, why.2)
    (refused-by _ (clauses_bound c.args.standing (outer_of c.args.scope.now c.args.levels.now c.args.tables.now) (of_core c.args.core.now) c.args.grouped c.args.found c.args.work.now) _
    (λ h. clauses-having c.args.standing c.args.scope.now c.args.levels.now c.args.tables.now c.args.core.now c.args.grouped c.args.found c.args.work.now _ _
    (where-is c.args.standing c.args.scope.now c.args.levels.now c.args.tables.now c.args.core.now c.args.grouped c.args.found c.as_slice-2.result.now (c.as_slice-2.ensures ∙ c.in_ok-levels.ensures.ok)
    c.as_slice.result.now c.clause-clause.result _ _ c.as_slice.ensures c.clause-clause.ensures c.in_ok-conjuncts.ensures) _ _
    (keys-is c.args.standing c.args.scope.now c.args.levels.now c.args.tables.now c.args.core.now c.args.grouped c.args.found c.as_slice-3.result.now (c.as_slice-3.ensures ∙ c.in_ok-levels.ensures.ok)
    c.as_slice.result.now c.as_slice-4.result.now c.clause-clause.result _ _ c.as_slice-4.ensures c.as_slice.ensures c.clause-clause.ensures c.in_ok-keys.ensures) _
    (having-is c.args.standing c.args.scope.now c.args.levels.now c.args.tables.now c.args.core.now c.args.grouped c.args.found c.as_slice-6.result.now (c.as_slice-6.ensures ∙ c.in_ok-levels.ensures.ok)
    c.as_slice-5.result.now c.as_slice-7.result.now c.in_ok-keys.keys c.clause.result _ _ c.as_slice-7.ensures c.as_slice-5.ensures c.clause.ensures h)) c.in_err-having.ensures)

pub selects::bind_clauses-returns-in_err-shown : goal.selects::bind_clauses-returns-in_err-shown
selects::bind_clauses-returns-in_err-shown t c =
    let why = err_from_is_err_and c.from_residual-in_err-shown.result c.from_residual-in_err-shown.ensures.1 in
    rw (why.1, why.2)
    (refused-by _ (clauses_bound c.args.standing (outer_of c.args.scope.now c.args.levels.now c.args.tables.now) (of_core c.args.core.now) c.args.grouped c.args.found c.args.work.now) _
    (λ h. clauses-results c.args.standing c.args.scope.now c.args.levels.now c.args.tables.now c.args.core.now c.args.grouped c.args.found c.args.work.now _ _
    (where-is c.args.standing c.args.scope.now c.args.levels.now c.args.tables.now c.args.core.now c.args.grouped c.args.found c.as_slice-2.result.now (c.as_slice-2.ensures ∙ c.in_ok-levels.ensures.ok)
    c.as_slice.result.now c.clause-clause.result _ _ c.as_slice.ensures c.clause-clause.ensures c.in_ok-conjuncts.ensures) _ _
    (keys-is c.args.standing c.args.scope.now c.args.levels.now c.args.tables.now c.args.core.now c.args.grouped c.args.found c.as_slice-3.result.now (c.as_slice-3.ensures ∙ c.in_ok-levels.ensures.ok)
    c.as_slice.result.now c.as_slice-4.result.now c.clause-clause.result _ _ c.as_slice-4.ensures c.as_slice.ensures c.clause-clause.ensures c.in_ok-keys.ensures) _ _
    (having-is c.args.standing c.args.scope.now c.args.levels.now c.args.tables.now c.args.core.now c.args.grouped c.args.found c.as_slice-6.result.now (c.as_slice-6.ensures ∙ c.in_ok-levels.ensures.ok)
    c.as_slice-5.result.now c.as_slice-7.result.now c.in_ok-keys.keys c.clause.result _ _ c.as_slice-7.ensures c.as_slice-5.ensures c.clause.ensures c.in_ok-having.ensures) _
    (results-is c.args.standing c.args.scope.now c.args.levels.now c.args.tables.now c.args.core.now c.args.grouped c.args.found c.as_slice-8.result.now (c.as_slice-8.ensures ∙ c.in_ok-levels.ensures.ok)
    c.as_slice-9.result.now [] c.as_slice-10.result.now c.in_ok-keys.keys c.clause-2.result _ _ c.as_slice-10.ensures c.as_slice-9.ensures refl c.clause-2.ensures h)) c.in_err-shown.ensures)

pub selects::bind_clauses-returns : goal.selects::bind_clauses-returns
selects::bind_clauses-returns t c =
    clauses-made c.args.standing c.args.scope.now c.args.levels.now c.args.tables.now c.args.core.now c.args.grouped c.args.found c.args.work.now _ _
    (where-is c.args.standing c.args.scope.now c.args.levels.now c.args.tables.now c.args.core.now c.args.grouped c.args.found c.as_slice-2.result.now (c.as_slice-2.ensures ∙ c.in_ok-levels.ensures.ok)
    c.as_slice.result.now c.clause-clause.result _ _ c.as_slice.ensures c.clause-clause.ensures c.in_ok-conjuncts.ensures) _ _
    (keys-is c.args.standing c.args.scope.now c.args.levels.now c.args.tables.now c.args.core.now c.args.grouped c.args.found c.as_slice-3.result.now (c.as_slice-3.ensures ∙ c.in_ok-levels.ensures.ok)
    c.as_slice.result.now c.as_slice-4.result.now c.clause-clause.result _ _ c.as_slice-4.ensures c.as_slice.ensures c.clause-clause.ensures c.in_ok-keys.ensures) _ _
    (having-is c.args.standing c.args.scope.now c.args.levels.now c.args.tables.now c.args.core.now c.args.grouped c.args.found c.as_slice-6.result.now (c.as_slice-6.ensures ∙ c.in_ok-levels.ensures.ok)
    c.as_slice-5.result.now c.as_slice-7.result.now c.in_ok-keys.keys c.clause.result _ _ c.as_slice-7.ensures c.as_slice-5.ensures c.clause.ensures c.in_ok-having.ensures) _ _ c.in_ok-levels.levels c.remove.result
    (results-is c.args.standing c.args.scope.now c.args.levels.now c.args.tables.now c.args.core.now c.args.grouped c.args.found c.as_slice-8.result.now (c.as_slice-8.ensures ∙ c.in_ok-levels.ensures.ok)
    c.as_slice-9.result.now [] c.as_slice-10.result.now c.in_ok-keys.keys c.clause-2.result _ _ c.as_slice-10.ensures c.as_slice-9.ensures refl c.clause-2.ensures c.in_ok-shown.ensures) c.in_ok-levels.ensures.ok
    c.remove.ensures.item

pub selects::bind_having-returns-in_ok-a-in-Some : goal.selects::bind_having-returns-in_ok-a-in-Some
selects::bind_having-returns-in_ok-a-in-Some t c =
    rw c.in-Some.is
    (having-comes (scope_of c.args.scope.now c.args.levels.now c.args.tables.now) c.args.keys.now c.args.levels.now _ c.in-Some.e c.args.work.now _ _ c.checked_conjuncts.result c.own_level.ensures
    c.in_ok-a-in-Some.ensures c.checked_conjuncts.ensures)

pub keys::bind_key-returns-in-Some : goal.keys::bind_key-returns-in-Some
keys::bind_key-returns-in-Some t c =
    rw
    (key-numbered (scope_of c.args.scope.now c.args.levels.now c.args.tables.now) (shown_in c.args.scope.now.text (own_of c.args.levels.now) (map of_result c.args.scope.now.results)) c.args.spanned.now c.args.work.now
    c.scope.inside.text.now c.in-Some.place (ap (λ (s : Where). s.text) c.scope.view_is) (sym c.in_ok-place.ensures.ok ∙ c.in-Some.is)) c.bind_numbered.ensures

pub keys::bind_key-returns-in-None : goal.keys::bind_key-returns-in-None
keys::bind_key-returns-in-None t c =
    rw
    (key-expression (scope_of c.args.scope.now c.args.levels.now c.args.tables.now) (shown_in c.args.scope.now.text (own_of c.args.levels.now) (map of_result c.args.scope.now.results)) c.args.spanned.now c.args.work.now
    c.scope.inside.text.now (ap (λ (s : Where). s.text) c.scope.view_is) (sym c.in_ok-place.ensures.ok ∙ c.in-None.is)) c.bind.ensures

pub keys::bind_numbered-returns-in-Column : goal.keys::bind_numbered-returns-in-Column
keys::bind_numbered-returns-in-Column t c =
    numbered-column c.args.scope.now c.args.levels.now c.args.tables.now (text_of c.args.scope.now.text c.args.written) c.args.place c.args.work.now _ c.own_level.result.now c.own_level.ensures c.scope.inside.text.now
    c.scope.inside.results.now (ap (λ (s : Where). s.text) c.scope.view_is) (ap (λ (s : Where). s.results) c.scope.view_is) c.in_ok-column.ensures.ok c.in-Column.column c.column_operand.result c.in-Column.is
    c.column_operand.ensures

pub keys::bind_numbered-returns-in-Expr : goal.keys::bind_numbered-returns-in-Expr
keys::bind_numbered-returns-in-Expr t c =
    numbered-expr c.args.scope.now c.args.levels.now c.args.tables.now (text_of c.args.scope.now.text c.args.written) c.args.place c.args.work.now _ c.own_level.result.now c.own_level.ensures c.scope.inside.text.now
    c.scope.inside.results.now (ap (λ (s : Where). s.text) c.scope.view_is) (ap (λ (s : Where). s.results) c.scope.view_is) c.in_ok-column.ensures.ok c.in-Expr.e.now c.plain.result c.bind.result _
    (ap binding_of c.in-Expr.is) c.plain.ensures c.bind.ensures

pub keys::bind_numbered-returns-in-Nothing : goal.keys::bind_numbered-returns-in-Nothing
keys::bind_numbered-returns-in-Nothing t c =
    numbered-nothing c.args.scope.now c.args.levels.now c.args.tables.now (text_of c.args.scope.now.text c.args.written) c.args.place c.args.work.now _ c.own_level.result.now c.own_level.ensures c.scope.inside.text.now
    c.scope.inside.results.now (ap (λ (s : Where). s.text) c.scope.view_is) (ap (λ (s : Where). s.results) c.scope.view_is) c.in_ok-column.ensures.ok c.unknown_text.result c.args.written c.scope.inside.text.now refl
    (ap (λ (s : Where). s.text) c.scope.view_is) c.in-Nothing.is c.unknown_text.ensures

pub orders::bind_order-returns : goal.orders::bind_order-returns
orders::bind_order-returns t c =
    rw
    (order-by c.args.select.now c.args.scope.now c.clause.result c.args.levels.now c.as_slice-2.result.now c.args.tables.now _ c.args.results.now (map of_term c.args.order.now) c.args.work.now
    (c.in_ok-own.ensures.ok ∙ c.as_slice.ensures) (c.as_slice-2.ensures ∙ c.in_ok-levels.ensures.ok) c.clause.ensures) c.bind_terms.ensures

pub orders::bind_term-returns-in-At : goal.orders::bind_term-returns-in-At
orders::bind_term-returns-in-At t c =
    term-at c.args.select.now (scope_of c.args.scope.now c.args.levels.now c.args.tables.now) c.args.results.now c.args.term.now c.args.work.now _ c.scope.inside.text.now c.as_slice-2.result.now c.as_slice.result.now
    (ap (λ (s : Where). s.text) c.scope.view_is) c.as_slice-2.ensures c.as_slice.ensures c.in_ok-place.ensures.ok c.in-At.place _ c.result_term.result c.in-At.is (search rules) c.result_term.ensures.ok
    c.result_term.ensures.mem

pub orders::bind_term-returns-in-Nowhere : goal.orders::bind_term-returns-in-Nowhere
orders::bind_term-returns-in-Nowhere t c =
    term-nowhere c.args.select.now (scope_of c.args.scope.now c.args.levels.now c.args.tables.now) c.args.results.now c.args.term.now c.args.work.now _ c.scope.inside.text.now c.as_slice-2.result.now
    c.as_slice.result.now (ap (λ (s : Where). s.text) c.scope.view_is) c.as_slice-2.ensures c.as_slice.ensures c.in_ok-place.ensures.ok c.scope.inside.text.now c.unknown_text.result c.in-Nowhere.is
    (ap (λ (s : Where). s.text) c.scope.view_is) c.unknown_text.ensures

pub orders::bind_term-returns-in-Else : goal.orders::bind_term-returns-in-Else
orders::bind_term-returns-in-Else t c =
    term-else c.args.select.now (scope_of c.args.scope.now c.args.levels.now c.args.tables.now) c.args.results.now c.args.term.now c.args.work.now _ c.scope.inside.text.now c.as_slice-2.result.now c.as_slice.result.now
    (ap (λ (s : Where). s.text) c.scope.view_is) c.as_slice-2.ensures c.as_slice.ensures c.in_ok-place.ensures.ok c.bind_term_expression.result _ c.in-Else.is c.bind_term_expression.ensures

pub orders::bind_term_expression-returns-in_err-a : goal.orders::bind_term_expression-returns-in_err-a
orders::bind_term_expression-returns-in_err-a t c =
    let why = err_from_is_err_and c.from_residual-in_err-a.result c.from_residual-in_err-a.ensures.1 in
    rw (why.1, why.2)
    (refused-by _ (term_by_expression c.args.select.now (scope_of c.args.scope.now c.args.levels.now c.args.tables.now) (of_term c.args.term.now) c.args.work.now) _
    (expression-refused c.args.select.now (scope_of c.args.scope.now c.args.levels.now c.args.tables.now) c.args.term.now c.args.work.now _) c.in_err-a.ensures)

pub orders::bind_term_expression-returns : goal.orders::bind_term_expression-returns
orders::bind_term_expression-returns t c =
    expression-comes c.args.select.now (scope_of c.args.scope.now c.args.levels.now c.args.tables.now) c.args.term.now c.args.work.now _ _ c.checked_term.result c.in_ok-a.ensures c.checked_term.ensures

pub orders::bind_terms-returns-in_err-one : goal.orders::bind_terms-returns-in_err-one
orders::bind_terms-returns-in_err-one t c =
    let h : c.loop-term.term-index < length c.args.order.now = omega arith in
    let e : drop c.loop-term.term-index c.args.order.now ≡ c.term-item.result ∷ drop (c.loop-term.term-index + 1) c.args.order.now = drop_more c.args.order.now c.loop-term.term-index c.term-item.result h ∙ ap
    (λ (x : OrderingTerm). x ∷ drop (c.loop-term.term-index + 1) c.args.order.now) (sym c.term-item.is) in
    let why = err_from_is_err_and c.from_residual-in_err-one.result c.from_residual-in_err-one.ensures.1 in
    rw (why.1, why.2)
    (refused-by _
    (in_turn (term_bound c.args.select.now (scope_of c.args.scope.now c.args.levels.now c.args.tables.now) (shown_in c.args.scope.now.text c.args.select.now.found.level (map of_result c.args.results.now)))
    (map of_term c.args.order.now) [] c.args.work.now) _
    (turn-refused (term_bound c.args.select.now (scope_of c.args.scope.now c.args.levels.now c.args.tables.now) (shown_in c.args.scope.now.text c.args.select.now.found.level (map of_result c.args.results.now)))
    (map of_term (drop c.loop-term.term-index c.args.order.now)) (map of_term (drop (c.loop-term.term-index + 1) c.args.order.now)) (of_term c.term-item.result) c.loop-term.terms c.loop-term.work
    (in_turn (term_bound c.args.select.now (scope_of c.args.scope.now c.args.levels.now c.args.tables.now) (shown_in c.args.scope.now.text c.args.select.now.found.level (map of_result c.args.results.now)))
    (map of_term c.args.order.now) [] c.args.work.now) c.loop-term.invariant (ap (map of_term) e) _) c.in_err-one.ensures)

pub orders::bind_terms-loop-term-preserved : goal.orders::bind_terms-loop-term-preserved
orders::bind_terms-loop-term-preserved t c =
    let h : c.loop-term.term-index < length c.args.order.now = omega arith in
    let e : drop c.loop-term.term-index c.args.order.now ≡ c.term-item.result ∷ drop (c.loop-term.term-index + 1) c.args.order.now = drop_more c.args.order.now c.loop-term.term-index c.term-item.result h ∙ ap
    (λ (x : OrderingTerm). x ∷ drop (c.loop-term.term-index + 1) c.args.order.now) (sym c.term-item.is) in
    turn-more (term_bound c.args.select.now (scope_of c.args.scope.now c.args.levels.now c.args.tables.now) (shown_in c.args.scope.now.text c.args.select.now.found.level (map of_result c.args.results.now)))
    (map of_term (drop c.loop-term.term-index c.args.order.now)) (map of_term (drop (c.loop-term.term-index + 1) c.args.order.now)) (of_term c.term-item.result) c.loop-term.terms c.loop-term.work
    (in_turn (term_bound c.args.select.now (scope_of c.args.scope.now c.args.levels.now c.args.tables.now) (shown_in c.args.scope.now.text c.args.select.now.found.level (map of_result c.args.results.now)))
    (map of_term c.args.order.now) [] c.args.work.now) c.loop-term.invariant (ap (map of_term) e) c.in_ok-one.one c.bind_term.new.work c.pushed.new.all c.in_ok-one.ensures c.in_ok-pushed.ensures.ok

pub results::bind_result-returns-in-All : goal.results::bind_result-returns-in-All
results::bind_result-returns-in-All t c =
    rw c.in-All.is
    (all-goes (scope_of c.args.scope.now c.args.levels.now c.args.tables.now) c.args.levels.now _ c.args.grouped c.args.keys.now c.args.shown.now _ c.args.work.now c.show_all.result c.own_level.ensures
    c.show_all.ensures)

pub results::bind_result-returns-in-AllOf : goal.results::bind_result-returns-in-AllOf
results::bind_result-returns-in-AllOf t c =
    rw c.in-AllOf.is
    (table-goes (scope_of c.args.scope.now c.args.levels.now c.args.tables.now) c.args.levels.now _ c.args.grouped c.args.keys.now c.args.shown.now _ c.args.work.now c.show_table.result c.own_level-in-AllOf.ensures
    c.scope.inside.text.now c.in-AllOf.token (ap (λ (s : Where). s.text) c.scope.view_is) c.show_table.ensures)

pub results::bind_result-returns-in-Expression : goal.results::bind_result-returns-in-Expression
results::bind_result-returns-in-Expression t c =
    rw (
      c.in-Expression.is,
      met-Expression (result_scope (scope_of c.args.scope.now c.args.levels.now c.args.tables.now) (own_of c.args.levels.now) c.args.grouped c.args.keys.now) c.in-Expression.spanned
          c.in-Expression.alias (c.args.shown.now, c.args.work.now),
    ) c.bind_shown.ensures

pub results::bind_shown-returns-in_err-room_behind : goal.results::bind_shown-returns-in_err-room_behind
results::bind_shown-returns-in_err-room_behind t c =
    let why = err_from_is_err_and c.from_residual-in_err-room_behind.result c.from_residual-in_err-room_behind.ensures.1 in
    rw (why.1, why.2)
    (refused-by _
    (one_met (result_scope (scope_of c.args.scope.now c.args.levels.now c.args.tables.now) (own_of c.args.levels.now) c.args.grouped c.args.keys.now)
    (one_shown c.args.scope.now.text (of_spanned c.args.spanned.now) c.args.alias.now) (c.args.shown.now, c.args.work.now)) _
    (shown-full (result_scope (scope_of c.args.scope.now c.args.levels.now c.args.tables.now) (own_of c.args.levels.now) c.args.grouped c.args.keys.now) c.args.spanned.now c.args.alias.now c.args.shown.now
    c.args.work.now _ c.as_slice.result.now c.as_slice.ensures) c.in_err-room_behind.ensures)

pub results::bind_shown-returns-in_err-a : goal.results::bind_shown-returns-in_err-a
results::bind_shown-returns-in_err-a t c =
    let why = err_from_is_err_and c.from_residual-in_err-a.result c.from_residual-in_err-a.ensures.1 in
    rw (why.1, why.2)
    (refused-by _
    (one_met (result_scope (scope_of c.args.scope.now c.args.levels.now c.args.tables.now) (own_of c.args.levels.now) c.args.grouped c.args.keys.now)
    (one_shown c.args.scope.now.text (of_spanned c.args.spanned.now) c.args.alias.now) (c.args.shown.now, c.args.work.now)) _
    (shown-refused (result_scope (scope_of c.args.scope.now c.args.levels.now c.args.tables.now) (own_of c.args.levels.now) c.args.grouped c.args.keys.now) c.args.spanned.now c.args.alias.now c.args.shown.now
    c.args.work.now _ c.as_slice.result.now c.as_slice.ensures c.in_ok-room_behind.ensures) c.in_err-a.ensures)

pub results::bind_shown-returns : goal.results::bind_shown-returns
results::bind_shown-returns t c =
    shown-goes (scope_of c.args.scope.now c.args.levels.now c.args.tables.now) c.args.levels.now _ c.args.grouped c.args.keys.now c.args.shown.now _ _ c.show.result c.own_level.ensures c.scope.inside.text.now
    c.as_slice.result.now c.args.spanned.now c.args.alias.now _ c.args.work.now (ap (λ (s : Where). s.text) c.scope.view_is) c.as_slice.ensures c.in_ok-room_behind.ensures c.in_ok-a.ensures c.show.ensures

pub parts::bind_select_alone-returns-in_err-select : goal.parts::bind_select_alone-returns-in_err-select
parts::bind_select_alone-returns-in_err-select t c =
    let why = err_from_is_err_and c.from_residual-in_err-select.result c.from_residual-in_err-select.ensures.1 in
    rw (why.1, why.2)
    (refused-by _ (select_alone (inside_of c.args.scope.now c.args.levels.now c.args.tables.now) (of_core c.args.core.now) (map of_term c.args.order.now) c.args.work.now) _
    (alone-refused (inside_of c.args.scope.now c.args.levels.now c.args.tables.now) (of_core c.args.core.now) (map of_term c.args.order.now) c.args.work.now _
    (c.in_ok-ordered.ensures.ok (outer_of c.args.scope.now c.args.levels.now c.args.tables.now) (ap (λ (s : Where). s.text) (sym c.scope.view_is)) (ap (λ (s : Where). facts_of s.facts) (sym c.scope.view_is))) _)
    c.in_err-select.ensures)

pub parts::bind_select_alone-returns-in_err-terms : goal.parts::bind_select_alone-returns-in_err-terms
parts::bind_select_alone-returns-in_err-terms t c =
    let why = err_from_is_err_and c.from_residual-in_err-terms.result c.from_residual-in_err-terms.ensures.1 in
    rw (why.1, why.2)
    (refused-by _ (select_alone (inside_of c.args.scope.now c.args.levels.now c.args.tables.now) (of_core c.args.core.now) (map of_term c.args.order.now) c.args.work.now) _
    (alone-unordered (inside_of c.args.scope.now c.args.levels.now c.args.tables.now) (of_core c.args.core.now) (map of_term c.args.order.now) c.args.work.now _
    (c.in_ok-ordered.ensures.ok (outer_of c.args.scope.now c.args.levels.now c.args.tables.now) (ap (λ (s : Where). s.text) (sym c.scope.view_is)) (ap (λ (s : Where). facts_of s.facts) (sym c.scope.view_is))) _ _
    c.in_ok-select.ensures (map of_result c.as_slice.result.now) _ (core-results c.args.core.now ∙ ap (map of_result) (sym c.as_slice.ensures))) c.in_err-terms.ensures)

pub parts::bind_select_alone-returns : goal.parts::bind_select_alone-returns
parts::bind_select_alone-returns t c =
    rw c.gathered_alone.ensures
    (alone-made (inside_of c.args.scope.now c.args.levels.now c.args.tables.now) (of_core c.args.core.now) (map of_term c.args.order.now) c.args.work.now _
    (c.in_ok-ordered.ensures.ok (outer_of c.args.scope.now c.args.levels.now c.args.tables.now) (ap (λ (s : Where). s.text) (sym c.scope.view_is)) (ap (λ (s : Where). facts_of s.facts) (sym c.scope.view_is))) _ _
    c.in_ok-select.ensures (map of_result c.as_slice.result.now) _ _ _ _ (core-results c.args.core.now ∙ ap (map of_result) (sym c.as_slice.ensures)) c.in_ok-terms.ensures c.in_ok-given.ensures)

pub parts::bind_values-returns-in_err-bound : goal.parts::bind_values-returns-in_err-bound
parts::bind_values-returns-in_err-bound t c =
    let why = err_from_is_err_and c.from_residual-in_err-bound.result c.from_residual-in_err-bound.ensures.1 in
    rw (why.1, why.2)
    (refused-by _ (part_bound (inside_of c.args.scope.now c.args.levels.now c.args.tables.now) (Values (map (map of_expr) c.args.rows.now)) c.args.work.now) _
    (values-refused c.args.scope.now c.clause.result c.args.levels.now c.as_slice.result.now c.args.tables.now _ (map (map of_expr) c.args.rows.now) c.args.work.now _ (search rules)
    (c.as_slice.ensures ∙ c.in_ok-levels.ensures.ok) c.clause.ensures) c.in_err-bound.ensures)

pub queries::bind_query-returns-in-Some : goal.queries::bind_query-returns-in-Some
queries::bind_query-returns-in-Some t c =
    query-goes c.args.query.now c.args.scope.now c.args.levels.now c.args.tables.now c.args.units c.in-Some.depth c.entered.result c.bind_entered.result (search rules) c.entered.ensures c.bind_entered.ensures

pub queries::bind_query-returns-in-None : goal.queries::bind_query-returns-in-None
queries::bind_query-returns-in-None t c =
    inr (query-refused c.args.query.now c.args.scope.now c.args.levels.now c.args.tables.now c.args.units (search rules))

pub queries::bind_limit-returns-in_ok-levels-in-Some : goal.queries::bind_limit-returns-in_ok-levels-in-Some
queries::bind_limit-returns-in_ok-levels-in-Some t c =
    rw c.in-Some.is
    (limit-goes c.args.scope.now c.clause.result c.args.levels.now c.as_slice.result.now c.args.tables.now _ (search rules) (c.as_slice.ensures ∙ c.in_ok-levels-in-Some.ensures.ok) c.clause.ensures
    (of_limit c.in-Some.limit) c.args.work.now _ c.bind_count.result c.bind_count.ensures)
