-- Whether a parameter stands in a tree: a CREATE has none outside the arguments of a module.
use Rattle.std.specs.Prelude.{Bool, true, false, ◌||◌, List, Option, Some, None}
use Rattle.std.specs.List.{list_any}
use Rattle.sql_tree.specs.declared.expr.Expr.TheOpen.{Arm-F, CommonTable-F, CompoundPart-F, Expr-F, FromItem-F, JoinConstraint-F, OrderingTerm-F, Query-F, QueryPart-F, ResultColumn-F, RowLimit-F, SelectCore-F, Source-F, SpannedExpr-F}
use Rattle.sql_tree.specs.declared.expr.Expr.{Expr, fold-Expr}
use Rattle.sql_tree.specs.declared.query.Query.{Query, fold-Query}
use Rattle.sql_tree.specs.declared.statement.Assignment.{Assignment}
use Rattle.sql_tree.specs.declared.statement.InsertSource.TheVariants as source
use Rattle.sql_tree.specs.declared.statement.InsertSource.{InsertSource}
use Rattle.sql_tree.specs.declared.statement.RowCommand.TheVariants as rows_by
use Rattle.sql_tree.specs.declared.statement.RowCommand.{RowCommand}
use Rattle.sql_tree.specs.declared.statement.TriggerDefinition.{TriggerDefinition}

-- one of the parts has one
abbrev pub any : List Bool → Bool
any parts = list_any (λ b. b) parts

abbrev pub some : Option Bool → Bool
some None = false
some (Some b) = b

abbrev pub any_of : Option (List Bool) → Bool
any_of None = false
any_of (Some parts) = any parts

abbrev pub expr_step : Expr-F Bool Bool Bool Bool Bool Bool Bool Bool Bool Bool Bool Bool Bool Bool → Bool
expr_step (Expr-F.Literal t) = false
expr_step (Expr-F.Parameter t) = true
expr_step (Expr-F.Column t) = false
expr_step (Expr-F.TableColumn t c) = false
expr_step (Expr-F.Unary o a) = a
expr_step (Expr-F.Binary o a b) = a || b
expr_step (Expr-F.Between a b c) = a || b || c
expr_step (Expr-F.Like a b c) = a || b || some c
expr_step (Expr-F.In a others) = a || any others
expr_step (Expr-F.InQuery a q) = a || q
expr_step (Expr-F.Subquery q) = q
expr_step (Expr-F.Exists q) = q
expr_step (Expr-F.Collate a t) = a
expr_step (Expr-F.Cast a t) = a
expr_step (Expr-F.Call t how args filter) = any args || some filter
expr_step (Expr-F.Case a arms otherwise) = some a || any arms || some otherwise
expr_step Expr-F.RaiseIgnore = false
expr_step (Expr-F.RaiseAbort t) = false

abbrev pub constraint_step : JoinConstraint-F Bool Bool Bool Bool Bool Bool Bool Bool Bool Bool Bool Bool Bool Bool → Bool
constraint_step JoinConstraint-F.Unconstrained = false
constraint_step (JoinConstraint-F.On x) = x
constraint_step (JoinConstraint-F.Using ts) = false

abbrev pub part_step : QueryPart-F Bool Bool Bool Bool Bool Bool Bool Bool Bool Bool Bool Bool Bool Bool → Bool
part_step (QueryPart-F.Select core) = core
part_step (QueryPart-F.Values rows) = list_any any rows

abbrev pub result_step : ResultColumn-F Bool Bool Bool Bool Bool Bool Bool Bool Bool Bool Bool Bool Bool Bool → Bool
result_step ResultColumn-F.All = false
result_step (ResultColumn-F.AllOf t) = false
result_step (ResultColumn-F.Expression x name) = x

abbrev pub source_step : Source-F Bool Bool Bool Bool Bool Bool Bool Bool Bool Bool Bool Bool Bool Bool → Bool
source_step (Source-F.Table t args) = any_of args
source_step (Source-F.Derived q) = q

abbrev pub arm_step : Arm-F Bool Bool Bool Bool Bool Bool Bool Bool Bool Bool Bool Bool Bool Bool → Bool
arm_step arm = arm.condition || arm.value

abbrev pub table_step : CommonTable-F Bool Bool Bool Bool Bool Bool Bool Bool Bool Bool Bool Bool Bool Bool → Bool
table_step t = t.query

abbrev pub compound_step : CompoundPart-F Bool Bool Bool Bool Bool Bool Bool Bool Bool Bool Bool Bool Bool Bool → Bool
compound_step c = c.part

abbrev pub item_step : FromItem-F Bool Bool Bool Bool Bool Bool Bool Bool Bool Bool Bool Bool Bool Bool → Bool
item_step i = i.source || i.constraint

abbrev pub term_step : OrderingTerm-F Bool Bool Bool Bool Bool Bool Bool Bool Bool Bool Bool Bool Bool Bool → Bool
term_step t = t.key

abbrev pub query_step : Query-F Bool Bool Bool Bool Bool Bool Bool Bool Bool Bool Bool Bool Bool Bool → Bool
query_step q = any q.with || q.first || any q.others || any q.order_by || some q.limit

abbrev pub limit_step : RowLimit-F Bool Bool Bool Bool Bool Bool Bool Bool Bool Bool Bool Bool Bool Bool → Bool
limit_step l = l.count || some l.offset

abbrev pub core_step : SelectCore-F Bool Bool Bool Bool Bool Bool Bool Bool Bool Bool Bool Bool Bool Bool → Bool
core_step c = any c.results || any c.from || some c.filter || any c.group_by || some c.having

abbrev pub spanned_step : SpannedExpr-F Bool Bool Bool Bool Bool Bool Bool Bool Bool Bool Bool Bool Bool Bool → Bool
spanned_step x = x.expr

abbrev pub expr_has_parameter : Expr → Bool
expr_has_parameter = fold-Expr Bool Bool Bool Bool Bool Bool Bool Bool Bool Bool Bool Bool Bool Bool
    expr_step constraint_step part_step result_step source_step arm_step table_step compound_step item_step term_step query_step limit_step core_step spanned_step

abbrev pub query_has_parameter : Query → Bool
query_has_parameter = fold-Query Bool Bool Bool Bool Bool Bool Bool Bool Bool Bool Bool Bool Bool Bool
    expr_step constraint_step part_step result_step source_step arm_step table_step compound_step item_step term_step query_step limit_step core_step spanned_step

-- ---- triggers

abbrev pub option_has_parameter : Option Expr → Bool
option_has_parameter None = false
option_has_parameter (Some x) = expr_has_parameter x

abbrev pub source_has_parameter : InsertSource → Bool
source_has_parameter (source.Query q) = query_has_parameter q
source_has_parameter source.Defaults = false

abbrev pub command_has_parameter : RowCommand → Bool
command_has_parameter (rows_by.Query q) = query_has_parameter q
command_has_parameter (rows_by.Insert i) = source_has_parameter i.source
command_has_parameter (rows_by.Update u) = list_any (λ (a : Assignment). expr_has_parameter a.value) u.assignments || option_has_parameter u.filter
command_has_parameter (rows_by.Delete d) = option_has_parameter d.filter

abbrev pub trigger_has_parameter : TriggerDefinition → Bool
trigger_has_parameter t = option_has_parameter t.condition || list_any command_has_parameter t.body
