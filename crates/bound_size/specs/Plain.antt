-- Expressions that ask no query: what they are bound to is no larger than they are written, but for a factor.
use Rattle.std.specs.Prelude.{Bool, true, false, ◌&&◌, List, [], ◌∷◌, Option, Some, None}
use Rattle.std.specs.List.{list_all}
use Rattle.sql_tree.specs.Folds.{ArmStep, ExprStep, fold_arm, fold_expr}
use Rattle.sql_tree.specs.Layers.{PartLayer, ResultLayer, SelectLayer, of_part, of_query, of_result, of_select}
use Rattle.sql_tree.specs.declared.expr.Arm.{Arm}
use Rattle.sql_tree.specs.declared.expr.Expr.TheOpen.{Expr-F, QueryPart-F, ResultColumn-F}
use Rattle.sql_tree.specs.declared.expr.Expr.{Expr}
use Rattle.sql_tree.specs.declared.query.Query.{Query}
use Rattle.sql_tree.specs.declared.query.ResultColumn.{ResultColumn}
use Rattle.sql_tree.specs.declared.query.SelectCore.{SelectCore}
use Rattle.sql_tree.specs.declared.statement.ColumnConstraint.TheVariants as own
use Rattle.sql_tree.specs.declared.statement.ColumnConstraint.{ColumnConstraint}
use Rattle.sql_tree.specs.declared.statement.ColumnDefinition.{ColumnDefinition}
use Rattle.sql_tree.specs.declared.statement.TableConstraint.TheVariants as behind
use Rattle.sql_tree.specs.declared.statement.TableConstraint.{TableConstraint}
use Rattle.sql_tree.specs.declared.statement.TableDefinition.{TableDefinition}

abbrev pub option_plain : Option Bool → Bool
option_plain None = true
option_plain (Some plain) = plain

abbrev pub all_plain : List Bool → Bool
all_plain [] = true
all_plain (plain ∷ others) = plain && all_plain others

abbrev pub plain_step : ExprStep Bool Bool → Bool
plain_step (Expr-F.Literal t) = true
plain_step (Expr-F.Parameter t) = true
plain_step (Expr-F.Column t) = true
plain_step (Expr-F.TableColumn t c) = true
plain_step (Expr-F.Unary o a) = a
plain_step (Expr-F.Binary o a b) = a && b
plain_step (Expr-F.Between a b c) = a && b && c
plain_step (Expr-F.Like a b c) = a && b && option_plain c
plain_step (Expr-F.In a others) = a && all_plain others
plain_step (Expr-F.InQuery a q) = false
plain_step (Expr-F.Subquery q) = false
plain_step (Expr-F.Exists q) = false
plain_step (Expr-F.Collate a t) = a
plain_step (Expr-F.Cast a t) = a
plain_step (Expr-F.Call t how args filter) = all_plain args && option_plain filter
plain_step (Expr-F.Case a arms otherwise) = option_plain a && all_plain arms && option_plain otherwise
plain_step Expr-F.RaiseIgnore = true
plain_step (Expr-F.RaiseAbort t) = true

abbrev pub plain_arm_step : ArmStep Bool Bool → Bool
plain_arm_step arm = arm.condition && arm.value

-- no query stands in it
abbrev pub is_plain : Expr → Bool
is_plain = fold_expr plain_step plain_arm_step

abbrev pub is_plain_arm : Arm → Bool
is_plain_arm = fold_arm plain_step plain_arm_step

-- ---- what a query shows, tests and lists

abbrev pub result_is_plain : ResultLayer → Bool
result_is_plain ResultColumn-F.All = true
result_is_plain (ResultColumn-F.AllOf t) = true
result_is_plain (ResultColumn-F.Expression x name) = is_plain x.expr

abbrev pub is_plain_result : ResultColumn → Bool
is_plain_result r = result_is_plain (of_result r)

abbrev pub is_plain_filter : Option Expr → Bool
is_plain_filter None = true
is_plain_filter (Some x) = is_plain x

abbrev pub is_plain_row : List Expr → Bool
is_plain_row row = list_all is_plain row

-- results and WHERE
abbrev pub select_is_plain : SelectLayer → Bool
select_is_plain s = list_all is_plain_result s.results && is_plain_filter s.filter

abbrev pub is_plain_core : SelectCore → Bool
is_plain_core core = select_is_plain (of_select core)

abbrev pub is_plain_part : PartLayer → Bool
is_plain_part (QueryPart-F.Select core) = is_plain_core core
is_plain_part (QueryPart-F.Values rows) = list_all is_plain_row rows

abbrev pub is_alone : {X : Type 0} → List X → Bool
is_alone [] = true
is_alone (x ∷ others) = false

-- of one part, which is plain
abbrev pub is_plain_query : Query → Bool
is_plain_query q = is_alone (of_query q).others && is_plain_part (of_part (of_query q).first)

-- ---- the DEFAULTs and CHECKs of a table

abbrev pub is_plain_constraint : ColumnConstraint → Bool
is_plain_constraint (own.Check x) = is_plain x
is_plain_constraint (own.Default x) = is_plain x
is_plain_constraint other = true

abbrev pub is_plain_column : ColumnDefinition → Bool
is_plain_column c = list_all is_plain_constraint c.constraints

abbrev pub is_plain_behind : TableConstraint → Bool
is_plain_behind (behind.Check x) = is_plain x
is_plain_behind other = true

-- none of them asks a query
abbrev pub is_plain_table : TableDefinition → Bool
is_plain_table t = list_all is_plain_column t.columns && list_all is_plain_behind t.constraints
