-- How large trees are: never larger than the number of tokens that they stand for.
use Rattle.std.specs.Prelude.{ℕ, ◌+◌, List, [], ◌∷◌, map, length, Option, Some, None}
use Rattle.sql_tree.specs.declared.expr.Arm.{Arm}
use Rattle.sql_tree.specs.declared.expr.Expr.{Expr}
use Rattle.sql_tree.specs.declared.expr.Expr.TheOpen.{Expr-F, Arm-F, QueryPart-F, ResultColumn-F}
use Rattle.sql_tree.specs.declared.query.Query.{Query}
use Rattle.sql_tree.specs.declared.query.QueryPart.{QueryPart}
use Rattle.sql_tree.specs.declared.query.ResultColumn.{ResultColumn}
use Rattle.sql_tree.specs.declared.query.FromItem.{FromItem}
use Rattle.sql_tree.specs.declared.statement.ColumnConstraint.{ColumnConstraint}
use Rattle.sql_tree.specs.declared.statement.ColumnConstraint.TheVariants as own
use Rattle.sql_tree.specs.declared.statement.ColumnDefinition.{ColumnDefinition}
use Rattle.sql_tree.specs.declared.statement.Command.{Command}
use Rattle.sql_tree.specs.declared.statement.Command.TheVariants as command
use Rattle.sql_tree.specs.declared.statement.Definition.{Definition}
use Rattle.sql_tree.specs.declared.statement.Definition.TheVariants as definition
use Rattle.sql_tree.specs.declared.statement.InsertSource.{InsertSource}
use Rattle.sql_tree.specs.declared.statement.InsertSource.TheVariants as source
use Rattle.sql_tree.specs.declared.statement.RowCommand.{RowCommand}
use Rattle.sql_tree.specs.declared.statement.RowCommand.TheVariants as rows
use Rattle.sql_tree.specs.declared.statement.Statement.{Statement}
use Rattle.sql_tree.specs.declared.statement.TableConstraint.{TableConstraint}
use Rattle.sql_tree.specs.declared.statement.TableConstraint.TheVariants as behind
use Rattle.sql_tree.specs.declared.statement.TableDefinition.{TableDefinition}
use Rattle.sql_tree.specs.Folds.{ExprStep, ArmStep, fold_expr, fold_arm}
use Rattle.sql_tree.specs.Layers.{PartLayer, ResultLayer, SelectLayer, of_part, of_query, of_result, of_select}

abbrev pub total : List ℕ → ℕ
total [] = 0
total (n ∷ ns) = n + total ns

abbrev pub or_0 : Option ℕ → ℕ
or_0 None = 0
or_0 (Some n) = n

-- 1 for each node, whatever a query holds, and 2 for a CASE, which has two words at the least beside its arms
abbrev pub size_step : ExprStep ℕ ℕ → ℕ
size_step (Expr-F.Literal t) = 1
size_step (Expr-F.Parameter t) = 1
size_step (Expr-F.Column t) = 1
size_step (Expr-F.TableColumn t c) = 1
size_step (Expr-F.Unary o a) = 1 + a
size_step (Expr-F.Binary o a b) = 1 + a + b
size_step (Expr-F.Between a b c) = 1 + a + b + c
size_step (Expr-F.Like a b c) = 1 + a + b + or_0 c
size_step (Expr-F.In a others) = 1 + a + total others
size_step (Expr-F.InQuery a q) = 1 + a
size_step (Expr-F.Subquery q) = 1
size_step (Expr-F.Exists q) = 1
size_step (Expr-F.Collate a t) = 1 + a
size_step (Expr-F.Cast a t) = 1 + a
size_step (Expr-F.Call t how args filter) = 1 + total args + or_0 filter
size_step (Expr-F.Case a arms otherwise) = 2 + or_0 a + total arms + or_0 otherwise
size_step Expr-F.RaiseIgnore = 1
size_step (Expr-F.RaiseAbort t) = 1

abbrev pub arm_size_step : ArmStep ℕ ℕ → ℕ
arm_size_step arm = 1 + arm.condition + arm.value

abbrev pub size_of : Expr → ℕ
size_of = fold_expr size_step arm_size_step

abbrev pub size_of_arm : Arm → ℕ
size_of_arm = fold_arm size_step arm_size_step

-- ---- queries: what of them runs without others

abbrev pub result_size : ResultLayer → ℕ
result_size ResultColumn-F.All = 1
result_size (ResultColumn-F.AllOf t) = 1
result_size (ResultColumn-F.Expression e alias) = size_of e.expr

abbrev pub size_of_result : ResultColumn → ℕ
size_of_result r = result_size (of_result r)

abbrev pub size_of_filter : Option Expr → ℕ
size_of_filter None = 0
size_of_filter (Some e) = size_of e

-- FROM and each item
abbrev pub size_of_from : List FromItem → ℕ
size_of_from [] = 0
size_of_from (item ∷ items) = 1 + length (item ∷ items)

abbrev pub size_of_row : List Expr → ℕ
size_of_row row = 1 + total (map size_of row)

abbrev pub select_size : SelectLayer → ℕ
select_size s = 1 + total (map size_of_result s.results) + size_of_from s.from + size_of_filter s.filter

abbrev pub part_size : PartLayer → ℕ
part_size (QueryPart-F.Select s) = select_size (of_select s)
part_size (QueryPart-F.Values rows) = total (map size_of_row rows)

abbrev pub size_of_query : Query → ℕ
size_of_query q = part_size (of_part (of_query q).first)

-- ---- statements

abbrev pub size_of_source : InsertSource → ℕ
size_of_source (source.Query q) = size_of_query q
size_of_source source.Defaults = 0

abbrev pub size_of_rows : RowCommand → ℕ
size_of_rows (rows.Query q) = size_of_query q
size_of_rows (rows.Insert i) = 2 + size_of_source i.source
size_of_rows (rows.Update u) = 1 + length u.assignments
size_of_rows (rows.Delete d) = 1

-- of a constraint its expression counts
abbrev pub size_of_constraint : ColumnConstraint → ℕ
size_of_constraint (own.Check x) = size_of x
size_of_constraint (own.Default x) = size_of x
size_of_constraint other = 0

abbrev pub size_of_column : ColumnDefinition → ℕ
size_of_column c = 1 + total (map size_of_constraint c.constraints)

abbrev pub size_of_behind : TableConstraint → ℕ
size_of_behind (behind.Check x) = size_of x
size_of_behind other = 0

abbrev pub size_of_table : TableDefinition → ℕ
size_of_table t = total (map size_of_column t.columns) + total (map size_of_behind t.constraints)

abbrev pub size_of_definition : Definition → ℕ
size_of_definition (definition.Table t) = 2 + size_of_table t
size_of_definition (definition.Index i) = 2
size_of_definition (definition.View v) = 2
size_of_definition (definition.Trigger t) = 2
size_of_definition (definition.VirtualTable t) = 2

-- beside its parts a statement has its first words
abbrev pub size_of_command : Command → ℕ
size_of_command (command.Rows r) = size_of_rows r
size_of_command (command.Create c) = size_of_definition c.definition
size_of_command (command.Remove r) = 1
size_of_command (command.Transaction t) = 1
size_of_command (command.Pragma p) = 1

abbrev pub size_of_statement : Statement → ℕ
size_of_statement s = size_of_command s.command
