-- A tree of a statement is no larger than the number of its tokens: each rule keeps to it.
use Rattle.std.proofs.Common.{◌≡◌, ◌+◌, ◌≤◌, ℕ, List, ◌∷◌, length, map, Option, None, Some, arith, refl}
use Rattle.sql_tree.specs.Layers.{of_part}
use Rattle.sql_tree.specs.Sizes.{total, size_of, size_of_filter, size_of_from, size_of_query, size_of_result, size_of_row, size_of_source, size_of_rows, size_of_behind, size_of_column, size_of_constraint, size_of_definition, size_of_command, size_of_statement, size_of_table, part_size}
use Rattle.sql_tree.specs.declared.expr.Expr.{Expr}
use Rattle.sql_tree.specs.declared.expr.Expr.TheVariants as e
use Rattle.sql_tree.specs.declared.query.FromItem.{FromItem}
use Rattle.sql_tree.specs.declared.query.Query.{Query}
use Rattle.sql_tree.specs.declared.query.QueryPart.{QueryPart}
use Rattle.sql_tree.specs.declared.query.QueryPart.TheVariants as part_is
use Rattle.sql_tree.specs.declared.query.ResultColumn.{ResultColumn}
use Rattle.sql_tree.specs.declared.query.ResultColumn.TheVariants as result_is
use Rattle.sql_tree.specs.declared.statement.RowCommand.{RowCommand}
use Rattle.sql_tree.specs.declared.statement.Command.{Command}
use Rattle.sql_tree.specs.declared.statement.Statement.{Statement}
use Rattle.sql_tree.specs.declared.statement.ColumnConstraint.{ColumnConstraint}
use Rattle.sql_tree.specs.declared.statement.TableDefinition.{TableDefinition}
use Rattle.sql_tree.specs.declared.token.Token.{Token}
use Rattle.sql_grammar.specs.Marks.{Marked}
use Rattle.sql_grammar.specs.Rules.{Lang}
use Rattle.sql_grammar.specs.Grammar.{Name, Of, or_none, or_no_arguments, sign_op, signed, span_of, expr, exprs}
use Rattle.sql_grammar.specs.Grammar as name
use Rattle.sql_grammar.specs.Bodies.{rules}
use Rattle.sql_grammar.specs.Queries.{filter_by, spanned_tails, column_of_table, behind_dot, spanned_call, behind_first_name, named_result, other_result, result, results, first_item, joined_item, items, from, select_core, select, one_row, values, core, parts, ordered_parts, query}
use Rattle.sql_grammar.specs.Writes.{insert_words, insert_source_of, insert, assignment, assignments, update_parts, update, delete, row_command}
use Rattle.sql_grammar.specs.Definitions.{Element, a_column, a_constraint, Named, check, column, column_constraint, column_key, column_rule_of, constraints_in, default_value, in_expression, not_null, null, signed_literal, table_constraint, table_rule_of, unique_column, next_element, next_constraint, columns_in, more_elements, all_columns, header, create_table, create_index, create_view, create_trigger, create_virtual_table, named_definition, create}
use Rattle.sql_grammar.specs.Statements.{remove, transaction, pragma, command, statement, all_statement_rules}
use Rattle.sql_grammar.proofs.SizeClauses.{size_of-Literal, size_of-Unary, size_of-Subquery, size_of-In, size_of-InQuery, size_of-TableColumn, size_of-Column, size_of_result-All, size_of_result-AllOf, size_of_result-Expression, size_of-Select, size_of-Values, size_of_query-is}
use Rattle.sql_grammar.proofs.Weights.{Fact, Weighs, weighs_alt, weighs_to, weighs_over, weighs_seq, weighs_fork, weighs_both, weighs_many, weighs_until, weighs_something}
use Rattle.sql_grammar.proofs.ExpressionSizes.{SomeToken, Within, Optional, Together, AsMany, Adds, BehindName, Enclosed, anything, one_token, after_one, between_brackets, maybe_keeps, list_keeps, call_keeps, tails_add, other_expr_keeps, expr_keeps, exprs_keep, case_keeps, some_arguments_keep, raise_what_keeps}

-- ---- what is true of the trees of the rules

abbrev pub TogetherRows : Fact (List (List Expr))
TogetherRows n rows = total (map size_of_row rows) ≤ n

abbrev pub WithinResult : Fact ResultColumn
WithinResult n r = size_of_result r ≤ n

abbrev pub TogetherResults : Fact (List ResultColumn)
TogetherResults n rs = total (map size_of_result rs) ≤ n

-- what stands behind a name, and makes a result column of it
abbrev pub BehindFirstName : Fact (Token → ResultColumn)
BehindFirstName n f = (t : Token) → size_of_result (f t) ≤ 1 + n

abbrev pub WithinFrom : Fact (List FromItem)
WithinFrom n items = size_of_from items ≤ n

abbrev pub WithinPart : Fact QueryPart
WithinPart n p = part_size (of_part p) ≤ n

abbrev pub WithinQuery : Fact Query
WithinQuery n q = size_of_query q ≤ n

abbrev pub WithinTable : Fact TableDefinition
WithinTable n t = size_of_table t ≤ n

-- what stands behind CREATE
abbrev pub BehindCreate : Fact Named
BehindCreate n p = size_of_definition p.1 ≤ 1 + n

abbrev pub WithinRows : Fact RowCommand
WithinRows n r = size_of_rows r ≤ n

abbrev pub WithinCommand : Fact Command
WithinCommand n c = size_of_command c ≤ n

abbrev pub WithinStatement : Fact Statement
WithinStatement n s = size_of_statement s ≤ n

abbrev pub WithinConstraint : Fact ColumnConstraint
WithinConstraint n c = size_of_constraint c ≤ n

abbrev size_of_element : Element → ℕ
size_of_element (a_column c) = size_of_column c
size_of_element (a_constraint c) = size_of_behind c

abbrev size_of_elements : List Element → ℕ
size_of_elements xs = total (map size_of_column (columns_in xs)) + total (map size_of_behind (constraints_in xs))

elements_grow : (x : Element) (xs : List Element) → size_of_elements (x ∷ xs) ≡ size_of_element x + size_of_elements xs
elements_grow (a_column c) xs = omega arith
elements_grow (a_constraint c) xs = omega arith

-- a sign is a token
abbrev signs_in : Option Token → ℕ
signs_in None = 0
signs_in (Some t) = 1

signed_size : (sign : Option Token) (number : Token) → size_of (signed_literal (record { sign = sign; number = number }) sign) ≡ 1 + signs_in sign
signed_size None number = size_of-Literal number
signed_size (Some t) number = omega (arith, size_of-Unary (sign_op t.kind) (e.Literal number), size_of-Literal number)

module _ (inner : (A : Type 0) → Name A → Lang A) (known : (A : Type 0) (n : Name A) (w : List Marked) (a : A) → inner A n w a → Enclosed A n (length w) a) where
  abbrev Keeps : {A : Type 0} → Fact A → Of A → Type 0
  Keeps P r = Weighs Name rules inner P r

  filter_by_keeps : Keeps Optional filter_by
  unfolding filter_by
  filter_by_keeps = maybe_keeps inner known {P = Within} (after_one inner known (expr_keeps inner known) (λ n a h. omega arith)) (omega arith) (λ n a h. h)

  -- ---- result columns

  spanned_tails_keep : Keeps (λ n p. Adds n p.0) spanned_tails
  unfolding spanned_tails
  spanned_tails_keep = weighs_over (tails_add inner known) (λ n f ts h. h)

  column_of_table_keeps : Keeps BehindFirstName column_of_table
  unfolding column_of_table
  column_of_table_keeps = weighs_both {Q = λ n p. Adds n p.0.0} (one_token inner known) (weighs_seq spanned_tails_keep (anything inner known) (λ m n p a f h k l e. let d = f k l e in omega arith))
      (λ m n c p h f t. let x = size_of-TableColumn t c in let d = f 1 (e.TableColumn t c) (omega arith) in let s = size_of_result-Expression (p.0.0 (e.TableColumn t c)) (span_of (t ∷ c ∷ p.0.1)) p.1 in omega arith)

  behind_dot_keeps : Keeps BehindFirstName behind_dot
  unfolding behind_dot
  behind_dot_keeps = weighs_alt (weighs_to (anything inner known) (λ n s h t. let x = size_of_result-AllOf t in omega arith)) column_of_table_keeps

  spanned_call_keeps : Keeps (λ n p. BehindName n p.0) spanned_call
  unfolding spanned_call
  spanned_call_keeps = weighs_over {P = BehindName} (weighs_both (call_keeps inner known) (tails_add inner known) (λ m n f g p q t. let d = q (1 + m) (f t) (p t) in omega arith)) (λ n f ts h. h)

  behind_first_name_keeps : Keeps BehindFirstName behind_first_name
  unfolding behind_first_name
  behind_first_name_keeps = weighs_alt (after_one inner known behind_dot_keeps (λ n f h t. let d = h t in omega arith))
      (weighs_alt
      (weighs_both spanned_call_keeps (anything inner known) (λ m n p a h q t. let d = h t in let s = size_of_result-Expression (p.0 t) (span_of (t ∷ p.1)) a in omega arith))
      (weighs_both spanned_tails_keep (anything inner known) (λ m n p a h q t. let x = size_of-Column t in let d = h 1 (e.Column t) (omega arith) in let s = size_of_result-Expression (p.0 (e.Column t)) (span_of (t ∷ p.1)) a in omega arith)))

  named_result_keeps : Keeps WithinResult named_result
  unfolding named_result
  named_result_keeps = weighs_both (one_token inner known) behind_first_name_keeps (λ m n t f h q. let d = q t in omega arith)

  other_result_keeps : Keeps WithinResult other_result
  unfolding other_result
  other_result_keeps = weighs_both {P = λ n s. (a : Option Token) → size_of_result (result_is.Expression s a) ≤ n}
      (weighs_over (other_expr_keeps inner known) (λ n x ts h a. let s = size_of_result-Expression x (span_of ts) a in omega arith)) (anything inner known) (λ m n s a h q. let d = h a in omega arith)

  result_keeps : Keeps WithinResult result
  unfolding result
  result_keeps = weighs_alt (weighs_to (one_token inner known) (λ n t h. let s = size_of_result-All in omega arith)) (weighs_alt named_result_keeps other_result_keeps)

  results_keep : Keeps TogetherResults results
  unfolding results
  results_keep = list_keeps inner known result_keeps (λ n a h. omega arith) (omega arith) (λ m n a more p q. omega arith)

  -- ---- FROM

  first_item_keeps : Keeps SomeToken first_item
  unfolding all_statement_rules
  first_item_keeps = weighs_something refl

  joined_item_keeps : Keeps SomeToken joined_item
  unfolding all_statement_rules
  joined_item_keeps = weighs_something refl

  items_keep : Keeps (λ n xs. size_of_from xs ≤ 1 + n) items
  unfolding items
  items_keep = weighs_both first_item_keeps (weighs_many {Q = AsMany} joined_item_keeps (omega arith) (λ m n a more p q. omega arith)) (λ m n a more p q. omega arith)

  from_keeps : Keeps WithinFrom from
  unfolding from
  from_keeps = weighs_to (maybe_keeps inner known {Q = λ n o. WithinFrom n (or_none o)} (after_one inner known items_keep (λ n xs h. h)) (omega arith) (λ n xs h. h)) (λ n o h. h)

  -- ---- SELECT and VALUES

  select_core_keeps : Keeps (λ n s. WithinPart (1 + n) (part_is.Select s)) select_core
  unfolding select_core
  select_core_keeps = weighs_both {P = λ n d. _} {Q = λ n p. total (map size_of_result p.0) + size_of_from p.1.0 + size_of_filter p.1.1.0 ≤ n} (anything inner known)
      (weighs_seq {Q = λ n p. size_of_from p.0 + size_of_filter p.1.0 ≤ n} results_keep
      (weighs_seq {Q = λ n p. size_of_filter p.0 ≤ n} from_keeps (weighs_seq filter_by_keeps (anything inner known) (λ m n a b p q. omega arith)) (λ m n a b p q. omega arith)) (λ m n a b p q. omega arith))
      (λ m n d p h q. let s = size_of-Select d p.0 p.1.0 p.1.1.0 p.1.1.1.0 p.1.1.1.1 in omega arith)

  select_keeps : Keeps (λ n s. WithinPart n (part_is.Select s)) select
  unfolding select
  select_keeps = after_one inner known select_core_keeps (λ n s h. h)

  one_row_keeps : Keeps (λ n row. size_of_row row ≤ n) one_row
  unfolding one_row
  one_row_keeps = between_brackets inner known (λ n a h. omega arith)

  values_keep : Keeps TogetherRows values
  unfolding values
  values_keep = after_one inner known {P = TogetherRows} (list_keeps inner known one_row_keeps (λ n a h. omega arith) (omega arith) (λ m n a more p q. omega arith)) (λ n a h. omega arith)

  core_keeps : Keeps (λ n p. WithinPart n p.1) core
  unfolding core
  core_keeps = weighs_alt (weighs_to select_keeps (λ n s h. h)) (weighs_to values_keep (λ n rows h. let s = size_of-Values rows in omega arith))

  -- ---- queries

  parts_keep : Keeps (λ n p. WithinPart n p.0.1) parts
  unfolding parts
  parts_keep = weighs_seq core_keeps (anything inner known) (λ m n p others h q. omega arith)

  ordered_parts_keep : Keeps (λ n p. WithinPart n p.0.0.1) ordered_parts
  unfolding ordered_parts
  ordered_parts_keep = weighs_fork parts_keep (anything inner known) (anything inner known) (λ m n p o h q. omega arith)

  query_keeps : Keeps WithinQuery query
  unfolding query
  query_keeps = weighs_both (anything inner known) ordered_parts_keep (λ m n tables p h q. let s = size_of_query-is tables p.0.0.1 (map (λ x. x.1) p.0.1) p.1.0 p.1.1 in omega arith)

  -- ---- INSERT, UPDATE, DELETE

  insert_words_keep : Keeps SomeToken insert_words
  unfolding all_statement_rules
  insert_words_keep = weighs_something refl

  insert_source_keeps : Keeps (λ n s. size_of_source s ≤ n) insert_source_of
  unfolding insert_source_of
  insert_source_keeps = weighs_alt (weighs_to query_keeps (λ n q h. h)) (weighs_to (anything inner known) (λ n q h. omega arith))

  insert_keeps : Keeps (λ n i. 2 + size_of_source i.source ≤ n) insert
  unfolding insert
  insert_keeps = weighs_both {Q = λ n p. 1 + size_of_source p.1.1 ≤ n} insert_words_keep
      (after_one inner known {P = λ n p. size_of_source p.1.1 ≤ n}
      (weighs_seq {Q = λ n p. size_of_source p.1 ≤ n} (anything inner known) (weighs_seq (anything inner known) insert_source_keeps (λ m n a b p q. omega arith)) (λ m n a b p q. omega arith)) (λ n p h. omega arith))
      (λ m n c p h q. omega arith)

  assignment_keeps : Keeps SomeToken assignment
  unfolding all_statement_rules
  assignment_keeps = weighs_something refl

  assignments_keep : Keeps AsMany assignments
  unfolding assignments
  assignments_keep = list_keeps inner known assignment_keeps (λ n a h. omega arith) (omega arith) (λ m n a more p q. omega arith)

  update_parts_keep : Keeps (λ n u. length u.assignments ≤ n) update_parts
  unfolding update_parts
  update_parts_keep = weighs_both {Q = λ n p. length p.1.0 ≤ n} (anything inner known)
      (weighs_seq {Q = λ n p. length p.0 ≤ n} (anything inner known)
      (weighs_seq (after_one inner known {Q = AsMany} assignments_keep (λ n a h. omega arith)) (anything inner known) (λ m n a b p q. omega arith)) (λ m n a b p q. omega arith))
      (λ m n c p h q. omega arith)

  update_keeps : Keeps (λ n u. 1 + length u.assignments ≤ n) update
  unfolding update
  update_keeps = after_one inner known update_parts_keep (λ n u h. omega arith)

  delete_keeps : Keeps SomeToken delete
  unfolding all_statement_rules
  delete_keeps = weighs_something refl

  row_command_keeps : Keeps WithinRows row_command
  unfolding row_command
  row_command_keeps = weighs_alt (weighs_to query_keeps (λ n q h. h)) (weighs_alt (weighs_to insert_keeps (λ n i h. h)) (weighs_alt (weighs_to update_keeps (λ n u h. h)) (weighs_to delete_keeps (λ n d h. h))))

  -- ---- CREATE

  in_expression_keeps : Keeps Within in_expression
  unfolding in_expression
  in_expression_keeps = between_brackets inner known (λ n x h. omega arith)

  check_keeps : Keeps Within check
  unfolding check
  check_keeps = after_one inner known in_expression_keeps (λ n x h. omega arith)

  signed_keeps : Keeps (λ n s. size_of (signed_literal s s.sign) ≤ n) signed
  unfolding signed
  signed_keeps = weighs_both {P = λ n o. signs_in o ≤ n} (maybe_keeps inner known {P = λ n t. n ≡ 1} (one_token inner known) (omega arith) (λ n t h. omega arith)) (one_token inner known) (λ m n o t p h. let s = signed_size o t in omega arith)

  default_value_keeps : Keeps Within default_value
  unfolding default_value
  default_value_keeps = weighs_alt (weighs_to (one_token inner known) (λ n t h. let s = size_of-Literal t in omega arith)) (weighs_alt in_expression_keeps (weighs_to signed_keeps (λ n s h. h)))

  column_rule_keeps : Keeps WithinConstraint column_rule_of
  unfolding column_rule_of column_key not_null null unique_column
  column_rule_keeps =
      weighs_alt (weighs_to (anything inner known) (λ n p h. omega arith))
      (weighs_alt (weighs_to (anything inner known) (λ n t h. omega arith))
      (weighs_alt (weighs_to (anything inner known) (λ n t h. omega arith))
      (weighs_alt (weighs_to (anything inner known) (λ n t h. omega arith))
      (weighs_alt (weighs_to check_keeps (λ n x h. h))
      (weighs_alt (weighs_to (after_one inner known {P = Within} {Q = Within} default_value_keeps (λ n x h. omega arith)) (λ n x h. h))
      (weighs_to (anything inner known) (λ n t h. omega arith)))))))

  column_constraint_keeps : Keeps WithinConstraint column_constraint
  unfolding column_constraint
  column_constraint_keeps = weighs_both (anything inner known) column_rule_keeps (λ m n o c h q. omega arith)

  column_keeps : Keeps (λ n c. size_of_column c ≤ n) column
  unfolding column
  column_keeps = weighs_both {Q = λ n p. total (map size_of_constraint p.1) ≤ n} (one_token inner known)
      (weighs_seq (anything inner known) (weighs_many {Q = λ n cs. total (map size_of_constraint cs) ≤ n} column_constraint_keeps (omega arith) (λ m n c more p q. omega arith)) (λ m n o cs h q. omega arith))
      (λ m n t p h q. omega arith)

  table_rule_keeps : Keeps (λ n c. size_of_behind c ≤ n) table_rule_of
  unfolding table_rule_of
  table_rule_keeps =
      weighs_alt (weighs_to (anything inner known) (λ n p h. omega arith)) (weighs_alt (weighs_to (anything inner known) (λ n p h. omega arith)) (weighs_to check_keeps (λ n x h. h)))

  table_constraint_keeps : Keeps (λ n c. size_of_behind c ≤ n) table_constraint
  unfolding table_constraint
  table_constraint_keeps = weighs_both (anything inner known) table_rule_keeps (λ m n o c h q. omega arith)

  next_element_keeps : Keeps (λ n x. size_of_element x ≤ n) next_element
  unfolding next_element
  next_element_keeps = after_one inner known {P = λ n x. size_of_element x ≤ n} (weighs_alt (weighs_to column_keeps (λ n c h. h)) (weighs_to table_constraint_keeps (λ n c h. h))) (λ n x h. omega arith)

  next_constraint_keeps : Keeps (λ n x. size_of_element x ≤ n) next_constraint
  unfolding next_constraint
  next_constraint_keeps = after_one inner known {P = λ n x. size_of_element x ≤ n} (weighs_to table_constraint_keeps (λ n c h. h)) (λ n x h. omega arith)

  more_elements_keep : Keeps (λ n xs. size_of_elements xs ≤ n) more_elements
  unfolding more_elements
  more_elements_keep = weighs_until next_element_keeps next_constraint_keeps (omega arith) (λ m n x xs p q. let c = elements_grow x xs in omega arith)

  all_columns_keep : Keeps WithinTable all_columns
  unfolding all_columns
  all_columns_keep = weighs_both column_keeps more_elements_keep (λ m n c xs p q. omega arith)

  header_keeps : Keeps SomeToken header
  unfolding all_statement_rules
  header_keeps = weighs_something refl

  create_table_keeps : Keeps BehindCreate create_table
  unfolding create_table
  create_table_keeps = weighs_to
      (after_one inner known {P = λ n p. 1 + size_of_table p.1 ≤ n} {Q = λ n p. 2 + size_of_table p.1 ≤ 1 + n}
      (weighs_seq {Q = λ n t. size_of_table t ≤ n} header_keeps (between_brackets inner known (λ n t h. omega arith)) (λ m n a b p q. omega arith)) (λ n p h. omega arith))
      (λ n p h. h)

  create_index_keeps : Keeps BehindCreate create_index
  unfolding create_index
  create_index_keeps = weighs_to {P = SomeToken} (weighs_something refl) (λ n p h. omega arith)

  create_view_keeps : Keeps BehindCreate create_view
  unfolding create_view
  create_view_keeps = weighs_to {P = SomeToken} (weighs_something refl) (λ n p h. omega arith)

  create_trigger_keeps : Keeps BehindCreate create_trigger
  unfolding create_trigger
  create_trigger_keeps = weighs_to {P = SomeToken} (weighs_something refl) (λ n p h. omega arith)

  create_virtual_table_keeps : Keeps BehindCreate create_virtual_table
  unfolding create_virtual_table
  create_virtual_table_keeps = weighs_to {P = SomeToken} (weighs_something refl) (λ n p h. omega arith)

  named_definition_keeps : Keeps BehindCreate named_definition
  unfolding named_definition
  named_definition_keeps = weighs_alt create_table_keeps (weighs_alt create_index_keeps (weighs_alt create_view_keeps (weighs_alt create_trigger_keeps create_virtual_table_keeps)))

  create_keeps : Keeps (λ n c. size_of_definition c.definition ≤ n) create
  unfolding create
  create_keeps = weighs_over (after_one inner known {Q = λ n p. size_of_definition p.1 ≤ n} named_definition_keeps (λ n p h. h)) (λ n p ts h. h)

  -- ---- statements

  remove_keeps : Keeps SomeToken remove
  unfolding all_statement_rules
  remove_keeps = weighs_something refl

  transaction_keeps : Keeps SomeToken transaction
  unfolding all_statement_rules
  transaction_keeps = weighs_something refl

  pragma_keeps : Keeps SomeToken pragma
  unfolding all_statement_rules
  pragma_keeps = weighs_something refl

  command_keeps : Keeps WithinCommand command
  unfolding command
  command_keeps =
      weighs_alt (weighs_to row_command_keeps (λ n r h. h))
      (weighs_alt (weighs_to create_keeps (λ n c h. h)) (weighs_alt (weighs_to remove_keeps (λ n r h. h)) (weighs_alt (weighs_to transaction_keeps (λ n t h. h)) (weighs_to pragma_keeps (λ n p h. h)))))

  pub statement_keeps : Keeps WithinStatement statement
  unfolding statement
  statement_keeps = weighs_both {Q = λ n p. WithinCommand n p.0} (anything inner known) (weighs_seq command_keeps (anything inner known) (λ m n a b p q. omega arith)) (λ m n a b p q. omega arith)

  -- ---- each name

  parenthesized_keeps : Keeps (λ n x. size_of x ≤ n + 2) expr
  parenthesized_keeps = let f = expr_keeps inner known in record { by = λ w x d. let h = f.by w x d in omega arith }

  pub enclosed_within : (A : Type 0) (n : Name A) → Keeps (Enclosed A n) (rules A n)
  enclosed_within A name.parenthesized = weighs_alt (weighs_to (anything inner known) (λ n q h. let s = size_of-Subquery q in omega arith)) parenthesized_keeps
  enclosed_within A name.subquery = anything inner known
  enclosed_within A name.expression = expr_keeps inner known
  enclosed_within A name.row = exprs_keep inner known
  enclosed_within A name.arguments = weighs_to (maybe_keeps inner known {Q = λ n o. Together n (or_no_arguments o).1} (some_arguments_keep inner known) (omega arith) (λ n a h. h)) (λ n o h. h)
  enclosed_within A name.table_arguments = anything inner known
  enclosed_within A name.condition = after_one inner known (expr_keeps inner known) (λ n a h. omega arith)
  enclosed_within A name.cast = weighs_seq (expr_keeps inner known) (anything inner known) (λ m n a b p q. omega arith)
  enclosed_within A name.choice = case_keeps inner known
  enclosed_within A name.members = weighs_alt (weighs_to (anything inner known) (λ n q h m l p. let s = size_of-InQuery l q in omega arith))
      (weighs_to (maybe_keeps inner known {Q = λ n o. Together n (or_none o)} (exprs_keep inner known) (omega arith) (λ n a h. h)) (λ n o h m l p. let s = size_of-In l (or_none o) in omega arith))
  enclosed_within A name.sizes = anything inner known
  enclosed_within A name.raise = raise_what_keeps inner known
  enclosed_within A name.name_list = anything inner known
  enclosed_within A name.columns = all_columns_keep
  enclosed_within A name.key_columns = anything inner known
  enclosed_within A name.index_columns = anything inner known
  enclosed_within A name.module_arguments = anything inner known
  enclosed_within A name.balanced = anything inner known
  enclosed_within A name.word = anything inner known
