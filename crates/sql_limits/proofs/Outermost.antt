-- Each outermost expression of a statement is one that the grammar derives, or names alone.
use Rattle.std.proofs.Common.{◌≡◌, ℕ, zero, suc, true, false, List, refl}
use Rattle.std.specs.List.{All}
use Rattle.std.proofs.lemmas.List.Elements.{All-from_recursion}
use Rattle.sql_tree.specs.declared.statement.Statement.{Statement}
use Rattle.sql_grammar.specs.Bodies.{rules}
use Rattle.sql_grammar.specs.Definitions.{create_view, when, body_command, trigger_body, trigger_parts, create}
use Rattle.sql_grammar.specs.Grammar.{Name, Of, exprs}
use Rattle.sql_grammar.specs.Grammar as name
use Rattle.sql_grammar.specs.Marks.{Marked}
use Rattle.sql_grammar.specs.Queries.{spanned_expr, filter_by, result, results, join_constraint, joined_item, items, from, group_by, having, select_core, core, compound_part, parts, term, order_by, limit, ordering, ordered_parts, query}
use Rattle.sql_grammar.specs.Rules.{nested, derives}
use Rattle.sql_grammar.specs.Statements.{command, statement, all_statement_rules}
use Rattle.sql_grammar.specs.StatementTexts.{IsStatement}
use Rattle.sql_grammar.specs.Writes.{insert, assignments, update, delete, row_command}
use Rattle.sql_grammar.specs.Written as written
use Rattle.sql_grammar.proofs.FactoredResults.{result_is_written}
use Rattle.sql_limits.specs.Limits.{outermost_expressions}
use Rattle.sql_limits.specs.Nestings.{Nested, flat}
use Rattle.sql_limits.specs.Outermost.{IsOneAtMost}
use Rattle.sql_limits.proofs.Pieces.{parts_of, Inside, Keeps, plain, expression, said_less, starts_with_names, cut, none, either, makes, makes_over, both, forks, turns, behind, may_be, listed, alike}

module _ (depth : ℕ) (inside : (A : Type 0) (n : Name A) (w : List Marked) (a : A) → nested Name rules depth A n w a → Inside A n w) where
  -- names alone in front, whatever comes behind
  abbrev Begins : {A : Type 0} → Of A → Type 0
  Begins r = Keeps depth true false false r

  -- an expression in front, or names
  abbrev Goes : {A : Type 0} → Of A → Type 0
  Goes r = Keeps depth false false false r

  exprs_keep : Goes exprs
  unfolding exprs
  exprs_keep = listed expression

  spanned_keeps : Goes spanned_expr
  unfolding spanned_expr
  spanned_keeps = makes_over expression

  filter_by_keeps : Begins filter_by
  unfolding filter_by
  filter_by_keeps = may_be (behind refl expression)

  result_keeps : Goes result
  unfolding all_statement_rules written.result
  result_keeps = alike result_is_written (either (makes (cut refl)) (either (makes (said_less (plain inside refl))) (makes (both refl spanned_keeps (plain inside refl)))))

  results_keep : Goes results
  unfolding results
  results_keep = listed result_keeps

  join_constraint_keeps : Begins join_constraint
  unfolding all_statement_rules
  join_constraint_keeps = either (makes (behind refl expression)) (plain inside refl)

  joined_item_keeps : Begins joined_item
  unfolding all_statement_rules
  joined_item_keeps = makes (both refl (plain inside refl) (both refl (plain inside refl) (both refl (plain inside refl) join_constraint_keeps)))

  items_keep : Begins items
  unfolding all_statement_rules
  items_keep = makes (both refl (plain inside refl) (turns joined_item_keeps))

  from_keeps : Begins from
  unfolding all_statement_rules
  from_keeps = makes (may_be (behind refl items_keep))

  group_by_keeps : Begins group_by
  unfolding all_statement_rules
  group_by_keeps = makes (may_be (behind refl (behind refl (listed spanned_keeps))))

  having_keeps : Begins having
  unfolding all_statement_rules
  having_keeps = may_be (behind refl expression)

  select_core_keeps : Goes select_core
  unfolding all_statement_rules
  select_core_keeps = said_less (makes (both refl (either (makes (cut refl)) (either (makes (cut refl)) none)) (both refl results_keep (both refl from_keeps (both refl filter_by_keeps (both refl group_by_keeps having_keeps))))))

  core_keeps : Begins core
  unfolding all_statement_rules
  core_keeps = either (makes (starts_with_names (behind refl select_core_keeps))) (makes (plain inside refl))

  compound_part_keeps : Begins compound_part
  unfolding all_statement_rules
  compound_part_keeps = makes (both refl (plain inside refl) core_keeps)

  parts_keep : Begins parts
  unfolding all_statement_rules
  parts_keep = both refl core_keeps (turns compound_part_keeps)

  term_keeps : Goes term
  unfolding all_statement_rules
  term_keeps = makes (both refl spanned_keeps (plain inside refl))

  order_by_keeps : Begins order_by
  unfolding all_statement_rules
  order_by_keeps = makes (may_be (behind refl (behind refl (listed term_keeps))))

  limit_keeps : Begins limit
  unfolding all_statement_rules
  limit_keeps = may_be (behind refl (makes (both refl expression (may_be (both refl (cut refl) expression)))))

  ordering_keeps : Begins ordering
  unfolding all_statement_rules
  ordering_keeps = both refl order_by_keeps limit_keeps

  ordered_parts_keep : Begins ordered_parts
  unfolding all_statement_rules
  ordered_parts_keep = forks refl parts_keep ordering_keeps (starts_with_names none)

  query_keeps : Begins query
  unfolding all_statement_rules
  query_keeps = makes (both refl (plain inside refl) ordered_parts_keep)

  -- ---- INSERT, UPDATE and DELETE

  insert_keeps : Begins insert
  unfolding all_statement_rules
  insert_keeps = makes (both refl (plain inside refl) (starts_with_names (behind refl (both refl (plain inside refl) (both refl (plain inside refl) (either (makes query_keeps) (makes (plain inside refl))))))))

  assignments_keep : Goes assignments
  unfolding all_statement_rules
  assignments_keep = listed (said_less (makes (both refl (plain inside refl) (behind refl expression))))

  update_keeps : Begins update
  unfolding all_statement_rules
  update_keeps = starts_with_names (behind refl (makes (both refl (plain inside refl) (both refl (plain inside refl) (both refl (behind refl assignments_keep) filter_by_keeps)))))

  delete_keeps : Begins delete
  unfolding all_statement_rules
  delete_keeps = starts_with_names (behind refl (behind refl (makes (both refl (plain inside refl) filter_by_keeps))))

  row_command_keeps : Begins row_command
  unfolding all_statement_rules
  row_command_keeps = either (makes query_keeps) (either (makes insert_keeps) (either (makes update_keeps) (makes delete_keeps)))

  -- ---- CREATE

  create_view_keeps : Begins create_view
  unfolding all_statement_rules
  create_view_keeps = makes (starts_with_names (behind refl (both refl (plain inside refl) (both refl (plain inside refl) (behind refl query_keeps)))))

  when_keeps : Begins when
  unfolding all_statement_rules
  when_keeps = may_be (behind refl expression)

  body_command_keeps : Keeps depth true true true body_command
  unfolding all_statement_rules
  body_command_keeps = makes (both refl row_command_keeps (cut refl))

  trigger_body_keeps : Begins trigger_body
  unfolding all_statement_rules
  trigger_body_keeps = makes (starts_with_names (both refl (behind refl (makes (both refl body_command_keeps (turns body_command_keeps)))) (cut refl)))

  trigger_parts_keep : Begins trigger_parts
  unfolding all_statement_rules
  trigger_parts_keep = makes (both refl (plain inside refl) (both refl (plain inside refl) (both refl (plain inside refl) (both refl (plain inside refl) (both refl when_keeps trigger_body_keeps)))))

  create_keeps : Begins create
  unfolding all_statement_rules
  create_keeps = makes_over (starts_with_names (behind refl (either (plain inside refl) (either (plain inside refl) (either create_view_keeps (either (makes (starts_with_names (behind refl (both refl (plain inside refl) trigger_parts_keep)))) (plain inside refl)))))))

  -- ---- statements

  command_keeps : Begins command
  unfolding all_statement_rules
  command_keeps = either (makes row_command_keeps) (either (makes create_keeps) (either (makes (plain inside refl)) (either (makes (plain inside refl)) (makes (plain inside refl)))))

  statement_keeps : Begins statement
  unfolding all_statement_rules
  statement_keeps = makes (both refl (plain inside refl) (both refl command_keeps (plain inside refl)))

  -- ---- brackets

  table_arguments_keep : Goes (rules _ name.table_arguments)
  table_arguments_keep = said_less (makes (may_be exprs_keep))

  body_parts : (A : Type 0) (n : Name A) (w : List Marked) (a : A) → derives Name rules depth (rules A n) w a → Inside A n w
  unfolding all_statement_rules
  body_parts A name.parenthesized w a d h = cc
  body_parts A name.subquery w a d h = let k = query_keeps in parts_of (k.by w a d)
  body_parts A name.expression w a d h = let k : Goes (rules A name.expression) = expression in parts_of (k.by w a d)
  body_parts A name.row w a d h = let k = exprs_keep in parts_of (k.by w a d)
  body_parts A name.arguments w a d h = cc
  body_parts A name.table_arguments w a d h = let k = table_arguments_keep in parts_of (k.by w a d)
  body_parts A name.condition w a d h = cc
  body_parts A name.cast w a d h = cc
  body_parts A name.choice w a d h = cc
  body_parts A name.members w a d h = cc
  body_parts A name.sizes w a d h = let k : Begins (rules A name.sizes) = plain inside refl in parts_of (k.by w a d)
  body_parts A name.raise w a d h = cc
  body_parts A name.name_list w a d h = let k : Begins (rules A name.name_list) = plain inside refl in parts_of (k.by w a d)
  body_parts A name.columns w a d h = let k : Begins (rules A name.columns) = plain inside refl in parts_of (k.by w a d)
  body_parts A name.key_columns w a d h = let k : Begins (rules A name.key_columns) = plain inside refl in parts_of (k.by w a d)
  body_parts A name.index_columns w a d h = let k : Begins (rules A name.index_columns) = plain inside refl in parts_of (k.by w a d)
  body_parts A name.module_arguments w a d h = let k : Begins (rules A name.module_arguments) = plain inside refl in parts_of (k.by w a d)
  body_parts A name.balanced w a d h = let k : Begins (rules A name.balanced) = plain inside refl in parts_of (k.by w a d)
  body_parts A name.word w a d h = let k : Begins (rules A name.word) = plain inside refl in parts_of (k.by w a d)

inner_parts : (depth : ℕ) (A : Type 0) (n : Name A) (w : List Marked) (a : A) → nested Name rules depth A n w a → Inside A n w
inner_parts zero A n w a d = absurd d
inner_parts (suc depth) A n w a d = body_parts depth (inner_parts depth) A n w a d

pub statement_parts : (depth : ℕ) (w : List Marked) (tree : Statement) → IsStatement depth w tree → (n : Nested) × (w ≡ flat n) × All IsOneAtMost (outermost_expressions n)
statement_parts depth w tree d =
    let k = statement_keeps depth (inner_parts depth) in
    let f = parts_of (k.by w tree d) in
    (f.0, f.1, All-from_recursion IsOneAtMost (outermost_expressions f.0) f.2)
