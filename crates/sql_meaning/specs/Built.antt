-- Which statements are built: CREATE and DROP of tables and indexes, INSERT of rows of values, VALUES, SELECT of expressions from tables or none,
-- and PRAGMA, also behind EXPLAIN. What any other holds does not run yet.
use Rattle.std.specs.Prelude.{ℕ, nat_eq, Bool, true, false, not, ◌&&◌, ◌||◌, List, [], ◌∷◌, length, Option, Some, None, is_some, codes}
use Rattle.std.specs.List.{list_all}
use Rattle.sql_tree.specs.declared.expr.Arguments.{Arguments}
use Rattle.sql_tree.specs.declared.expr.Arguments.TheVariants as arguments
use Rattle.sql_tree.specs.Folds.{ExprStep, ArmStep, fold_expr, fold_arm}
use Rattle.sql_tree.specs.Layers.{ConstraintLayer, ItemLayer, PartLayer, QueryLayer, ResultLayer, SelectLayer, SourceLayer, of_constraint, of_item, of_part, of_query, of_result, of_select, of_source}
use Rattle.sql_tree.specs.declared.expr.Arm.{Arm}
use Rattle.sql_tree.specs.declared.expr.Expr.{Expr}
use Rattle.sql_tree.specs.declared.expr.Expr.TheOpen.{Expr-F, JoinConstraint-F, QueryPart-F, ResultColumn-F, Source-F}
use Rattle.sql_tree.specs.declared.query.FromItem.{FromItem}
use Rattle.sql_tree.specs.declared.query.ResultColumn.{ResultColumn}
use Rattle.sql_tree.specs.declared.statement.ColumnConstraint.{ColumnConstraint}
use Rattle.sql_tree.specs.declared.statement.ColumnConstraint.TheVariants as constraint
use Rattle.sql_tree.specs.declared.statement.ColumnDefinition.{ColumnDefinition}
use Rattle.sql_tree.specs.declared.statement.Command.{Command}
use Rattle.sql_tree.specs.declared.statement.Command.TheVariants as command
use Rattle.sql_tree.specs.declared.statement.ConflictChoice.{ConflictChoice}
use Rattle.sql_tree.specs.declared.statement.ConflictChoice.TheVariants as choice
use Rattle.sql_tree.specs.declared.statement.Create.{Create}
use Rattle.sql_tree.specs.declared.statement.Definition.{Definition}
use Rattle.sql_tree.specs.declared.statement.Definition.TheVariants as definition
use Rattle.sql_tree.specs.declared.statement.Insert.{Insert}
use Rattle.sql_tree.specs.declared.statement.InsertSource.{InsertSource}
use Rattle.sql_tree.specs.declared.statement.InsertSource.TheVariants as source
use Rattle.sql_tree.specs.declared.statement.ObjectKind.{ObjectKind}
use Rattle.sql_tree.specs.declared.statement.ObjectKind.TheVariants as object
use Rattle.sql_tree.specs.declared.statement.RowCommand.{RowCommand}
use Rattle.sql_tree.specs.declared.statement.RowCommand.TheVariants as rows_by
use Rattle.sql_tree.specs.declared.statement.Statement.{Statement}
use Rattle.sql_tree.specs.declared.statement.TableConstraint.{TableConstraint}
use Rattle.sql_tree.specs.declared.statement.TableConstraint.TheVariants as behind
use Rattle.sql_tree.specs.declared.statement.TableDefinition.{TableDefinition}
use Rattle.sql_words.specs.Names.{is_named_in}
use Rattle.sql_words.specs.Spelled.{name_bytes}

-- max and min of one argument are aggregates
abbrev pub is_aggregate : List ℕ → Arguments → ℕ → Bool
is_aggregate name arguments.Star given = is_named_in (codes "count" ∷ codes "sum" ∷ codes "group_concat" ∷ []) name
is_aggregate name how given =
    is_named_in (codes "count" ∷ codes "sum" ∷ codes "group_concat" ∷ []) name || (nat_eq given 1 && is_named_in (codes "max" ∷ codes "min" ∷ []) name)

-- of an expression in a text
abbrev pub Test : Type 0
Test = List ℕ → Bool

abbrev pub option_passes : Option Test → Test
option_passes None text = true
option_passes (Some test) text = test text

abbrev pub all_pass : List Test → Test
all_pass tests text = list_all (λ test. test text) tests

-- no aggregate, FILTER, RAISE or query
abbrev pub built_step : ExprStep Test Test → Test
built_step (Expr-F.Literal t) text = true
built_step (Expr-F.Parameter t) text = true
built_step (Expr-F.Column t) text = true
built_step (Expr-F.TableColumn t c) text = true
built_step (Expr-F.Unary o a) text = a text
built_step (Expr-F.Binary o a b) text = a text && b text
built_step (Expr-F.Between a b c) text = a text && b text && c text
built_step (Expr-F.Like a b c) text = a text && b text && option_passes c text
built_step (Expr-F.In a others) text = a text && all_pass others text
built_step (Expr-F.InQuery a q) text = false
built_step (Expr-F.Subquery q) text = false
built_step (Expr-F.Exists q) text = false
built_step (Expr-F.Collate a t) text = a text
built_step (Expr-F.Cast a t) text = a text
built_step (Expr-F.Call t how args None) text = not (is_aggregate (name_bytes text t) how (length args)) && all_pass args text
built_step (Expr-F.Call t how args (Some filter)) text = false
built_step (Expr-F.Case a arms otherwise) text = option_passes a text && all_pass arms text && option_passes otherwise text
built_step Expr-F.RaiseIgnore text = false
built_step (Expr-F.RaiseAbort t) text = false

abbrev pub built_arm_step : ArmStep Test Test → Test
built_arm_step arm text = arm.condition text && arm.value text

abbrev pub is_built_expr : Expr → Test
is_built_expr = fold_expr built_step built_arm_step

abbrev pub is_built_arm : Arm → Test
is_built_arm = fold_arm built_step built_arm_step

abbrev pub result_is_built : List ℕ → ResultLayer → Bool
result_is_built text ResultColumn-F.All = true
result_is_built text (ResultColumn-F.AllOf t) = true
result_is_built text (ResultColumn-F.Expression x name) = is_built_expr x.expr text

abbrev pub is_built_result : List ℕ → ResultColumn → Bool
is_built_result text r = result_is_built text (of_result r)

abbrev pub is_built_filter : List ℕ → Option Expr → Bool
is_built_filter text None = true
is_built_filter text (Some x) = is_built_expr x text

-- ---- CREATE

abbrev pub is_empty : {A : Type 0} → List A → Bool
is_empty [] = true
is_empty (x ∷ xs) = false

abbrev pub is_built_constraint : List ℕ → ColumnConstraint → Bool
is_built_constraint text (constraint.Check x) = is_built_expr x text
is_built_constraint text (constraint.Default x) = is_built_expr x text
is_built_constraint text other = true

abbrev pub is_built_column : List ℕ → ColumnDefinition → Bool
is_built_column text c = list_all (is_built_constraint text) c.constraints

abbrev pub is_built_behind : List ℕ → TableConstraint → Bool
is_built_behind text (behind.Check x) = is_built_expr x text
is_built_behind text other = true

abbrev pub is_built_table : List ℕ → TableDefinition → Bool
is_built_table text t = list_all (is_built_column text) t.columns && list_all (is_built_behind text) t.constraints

abbrev pub is_built_definition : List ℕ → Definition → Bool
is_built_definition text (definition.Table t) = is_built_table text t
is_built_definition text (definition.Index i) = true
is_built_definition text other = false

abbrev pub is_built_create : List ℕ → Create → Bool
is_built_create text c = is_built_definition text c.definition

-- ---- queries

-- no WITH, no compound, no ORDER BY and no LIMIT
abbrev pub stands_alone : QueryLayer → Bool
stands_alone q = is_empty q.with && is_empty q.others && is_empty q.order_by && not (is_some q.limit)

-- a table by its name, without arguments
abbrev pub is_built_source : SourceLayer → Bool
is_built_source (Source-F.Table t None) = true
is_built_source (Source-F.Table t (Some arguments)) = false
is_built_source (Source-F.Derived q) = false

abbrev pub is_built_join : List ℕ → ConstraintLayer → Bool
is_built_join text JoinConstraint-F.Unconstrained = true
is_built_join text (JoinConstraint-F.On x) = is_built_expr x text
is_built_join text (JoinConstraint-F.Using names) = true

abbrev pub is_built_layer : List ℕ → ItemLayer → Bool
is_built_layer text item = is_built_source (of_source item.source) && is_built_join text (of_constraint item.constraint)

abbrev pub is_built_item : List ℕ → FromItem → Bool
is_built_item text item = is_built_layer text (of_item item)

-- no DISTINCT, no GROUP BY and no HAVING
abbrev pub is_plain_select : SelectLayer → Bool
is_plain_select s = not s.distinct && is_empty s.group_by && not (is_some s.having)

abbrev pub is_built_select : List ℕ → SelectLayer → Bool
is_built_select text s =
    is_plain_select s && list_all (is_built_item text) s.from && list_all (is_built_result text) s.results && is_built_filter text s.filter

abbrev pub is_built_row : List ℕ → List Expr → Bool
is_built_row text row = list_all (λ x. is_built_expr x text) row

abbrev pub is_built_part : List ℕ → PartLayer → Bool
is_built_part text (QueryPart-F.Select s) = is_built_select text (of_select s)
is_built_part text (QueryPart-F.Values rows) = list_all (is_built_row text) rows

abbrev pub is_built_query : List ℕ → QueryLayer → Bool
is_built_query text q = stands_alone q && is_built_part text (of_part q.first)

-- ---- INSERT

abbrev pub are_built_rows : List ℕ → PartLayer → Bool
are_built_rows text (QueryPart-F.Select s) = false
are_built_rows text (QueryPart-F.Values rows) = list_all (is_built_row text) rows

abbrev pub is_built_values : List ℕ → QueryLayer → Bool
is_built_values text q = stands_alone q && are_built_rows text (of_part q.first)

abbrev pub is_built_rows_source : List ℕ → InsertSource → Bool
is_built_rows_source text (source.Query q) = is_built_values text (of_query q)
is_built_rows_source text source.Defaults = true

abbrev pub is_abort : ConflictChoice → Bool
is_abort choice.Abort = true
is_abort other = false

abbrev pub is_built_insert : List ℕ → Insert → Bool
is_built_insert text i = is_abort i.choice && is_built_rows_source text i.source

-- ---- statements

abbrev pub is_built_rows : List ℕ → RowCommand → Bool
is_built_rows text (rows_by.Query q) = is_built_query text (of_query q)
is_built_rows text (rows_by.Insert i) = is_built_insert text i
is_built_rows text other = false

abbrev pub is_removed : ObjectKind → Bool
is_removed object.Table = true
is_removed object.Index = true
is_removed other = false

abbrev pub is_built_command : List ℕ → Command → Bool
is_built_command text (command.Rows r) = is_built_rows text r
is_built_command text (command.Create c) = is_built_create text c
is_built_command text (command.Remove r) = is_removed r.kind
is_built_command text (command.Pragma p) = true
is_built_command text other = false

-- all of the statement is built
abbrev pub is_built : List ℕ → Statement → Bool
is_built text s = is_built_command text s.command
