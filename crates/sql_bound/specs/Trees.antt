-- Every expression and query, by one fold over the trees; and views, each bound one level deeper than its use.
use Rattle.std.specs.Prelude.{ℕ, zero, suc, List, [], map, Option, Some, None}
use Rattle.sql_tree.specs.declared.expr.Expr.TheOpen.{JoinConstraint-F, QueryPart-F, ResultColumn-F, Source-F}
use Rattle.sql_tree.specs.declared.expr.Expr.{Expr, fold-Expr}
use Rattle.sql_tree.specs.declared.query.Query.{Query, fold-Query}
use Rattle.sql_tree.specs.declared.statement.Assignment.{Assignment}
use Rattle.sql_tree.specs.declared.statement.InsertSource.TheVariants as source
use Rattle.sql_tree.specs.declared.statement.InsertSource.{InsertSource}
use Rattle.sql_tree.specs.declared.statement.RowCommand.TheVariants as rows_by
use Rattle.sql_tree.specs.declared.statement.RowCommand.{RowCommand}
use Rattle.sql_tree.specs.declared.statement.TriggerDefinition.{TriggerDefinition}
use Rattle.sql_bound.specs.Carriers.{All, AllOf, ArmParts, CommonTableLayer, CompoundParts, CompoundPartLayer, ConstraintParts, CoreParts, Derived, Expression, FromItemLayer, ItemParts, JoinConstraintLayer, LimitParts, On, One, OrderingTermLayer, PartParts, QueryLayer, QueryParts, QueryPartLayer, ResultColumnLayer, ResultParts, RowLimitLayer, Select, SelectCoreLayer, SourceLayer, SourceParts, SpannedExprLayer, SpannedExpression, Table, TableParts, TermParts, Unconstrained, Using, Values}
use Rattle.sql_bound.specs.Carriers.{Deletes, Inserts, Queries, RowParts, SetParts, TriggerParts, Updates}
use Rattle.sql_bound.specs.Expressions.{arm_step, expr_step}
use Rattle.sql_bound.specs.Limits.{most_queries}
use Rattle.sql_bound.specs.Recursions.{parts_of_query}
use Rattle.sql_bound.specs.Scopes.{Around, Bottom, Deeper, Depth, Level, Outer, in_statement}
use Rattle.sql_bound.specs.declared.scopes.Allowed.{Allowed}
use Rattle.sql_tree.specs.declared.expr.Arm.{Arm, fold-Arm}
use Rattle.sql_tree.specs.declared.query.CommonTable.{CommonTable, fold-CommonTable}
use Rattle.sql_tree.specs.declared.query.CompoundPart.{CompoundPart, fold-CompoundPart}
use Rattle.sql_tree.specs.declared.query.FromItem.{FromItem, fold-FromItem}
use Rattle.sql_tree.specs.declared.query.JoinConstraint.{JoinConstraint, fold-JoinConstraint}
use Rattle.sql_tree.specs.declared.query.OrderingTerm.{OrderingTerm, fold-OrderingTerm}
use Rattle.sql_tree.specs.declared.query.QueryPart.{QueryPart, fold-QueryPart}
use Rattle.sql_tree.specs.declared.query.ResultColumn.{ResultColumn, fold-ResultColumn}
use Rattle.sql_tree.specs.declared.query.RowLimit.{RowLimit, fold-RowLimit}
use Rattle.sql_tree.specs.declared.query.SelectCore.{SelectCore, fold-SelectCore}
use Rattle.sql_tree.specs.declared.query.Source.{Source, fold-Source}
use Rattle.sql_tree.specs.declared.query.SpannedExpr.{SpannedExpr, fold-SpannedExpr}

-- ---- the steps

abbrev pub constraint_step : JoinConstraintLayer → ConstraintParts
constraint_step JoinConstraint-F.Unconstrained = Unconstrained
constraint_step (JoinConstraint-F.On x) = On x
constraint_step (JoinConstraint-F.Using ts) = Using ts

abbrev pub part_step : QueryPartLayer → PartParts
part_step (QueryPart-F.Select core) = Select core
part_step (QueryPart-F.Values rows) = Values rows

abbrev pub result_step : ResultColumnLayer → ResultParts
result_step ResultColumn-F.All = All
result_step (ResultColumn-F.AllOf t) = AllOf t
result_step (ResultColumn-F.Expression x name) = One x name

abbrev pub source_step : SourceLayer → SourceParts
source_step (Source-F.Table t args) = Table t args
source_step (Source-F.Derived q) = Derived q

abbrev pub table_step : CommonTableLayer → TableParts
table_step t = record { name = t.name; columns = t.columns; query = t.query }

abbrev pub compound_step : CompoundPartLayer → CompoundParts
compound_step c = record { op = c.op; part = c.part }

abbrev pub item_step : FromItemLayer → ItemParts
item_step i = record { join = i.join; source = i.source; alias = i.alias; constraint = i.constraint }

abbrev pub term_step : OrderingTermLayer → TermParts
term_step t = record { key = t.key; descending = t.descending; nulls = t.nulls }

abbrev pub query_step : QueryLayer → QueryParts
query_step q = parts_of_query (record { tables = q.with; first = q.first; others = q.others; order = q.order_by; limit = q.limit })

abbrev pub limit_step : RowLimitLayer → LimitParts
limit_step l = record { count = l.count; offset = l.offset }

abbrev pub core_step : SelectCoreLayer → CoreParts
core_step c =
    record { distinct = c.distinct; results = c.results; from = c.from; filter = c.filter; group_by = c.group_by; having = c.having }

abbrev pub spanned_step : SpannedExprLayer → SpannedExpression
spanned_step x = record { expr = x.expr; text = x.text }

-- ---- the folds

abbrev pub of_expr : Expr → Expression
of_expr = fold-Expr Expression ConstraintParts PartParts ResultParts SourceParts ArmParts TableParts CompoundParts ItemParts TermParts QueryParts LimitParts CoreParts SpannedExpression
    expr_step constraint_step part_step result_step source_step arm_step table_step compound_step item_step term_step query_step limit_step core_step spanned_step

abbrev pub of_query : Query → QueryParts
of_query = fold-Query Expression ConstraintParts PartParts ResultParts SourceParts ArmParts TableParts CompoundParts ItemParts TermParts QueryParts LimitParts CoreParts SpannedExpression
    expr_step constraint_step part_step result_step source_step arm_step table_step compound_step item_step term_step query_step limit_step core_step spanned_step

-- ---- the parts of queries, by the same fold

abbrev pub of_constraint : JoinConstraint → ConstraintParts
of_constraint = fold-JoinConstraint Expression ConstraintParts PartParts ResultParts SourceParts ArmParts TableParts CompoundParts ItemParts TermParts QueryParts LimitParts CoreParts SpannedExpression
    expr_step constraint_step part_step result_step source_step arm_step table_step compound_step item_step term_step query_step limit_step core_step spanned_step

abbrev pub of_part : QueryPart → PartParts
of_part = fold-QueryPart Expression ConstraintParts PartParts ResultParts SourceParts ArmParts TableParts CompoundParts ItemParts TermParts QueryParts LimitParts CoreParts SpannedExpression
    expr_step constraint_step part_step result_step source_step arm_step table_step compound_step item_step term_step query_step limit_step core_step spanned_step

abbrev pub of_result : ResultColumn → ResultParts
of_result = fold-ResultColumn Expression ConstraintParts PartParts ResultParts SourceParts ArmParts TableParts CompoundParts ItemParts TermParts QueryParts LimitParts CoreParts SpannedExpression
    expr_step constraint_step part_step result_step source_step arm_step table_step compound_step item_step term_step query_step limit_step core_step spanned_step

abbrev pub of_source : Source → SourceParts
of_source = fold-Source Expression ConstraintParts PartParts ResultParts SourceParts ArmParts TableParts CompoundParts ItemParts TermParts QueryParts LimitParts CoreParts SpannedExpression
    expr_step constraint_step part_step result_step source_step arm_step table_step compound_step item_step term_step query_step limit_step core_step spanned_step

abbrev pub of_arm : Arm → ArmParts
of_arm = fold-Arm Expression ConstraintParts PartParts ResultParts SourceParts ArmParts TableParts CompoundParts ItemParts TermParts QueryParts LimitParts CoreParts SpannedExpression
    expr_step constraint_step part_step result_step source_step arm_step table_step compound_step item_step term_step query_step limit_step core_step spanned_step

abbrev pub of_table : CommonTable → TableParts
of_table = fold-CommonTable Expression ConstraintParts PartParts ResultParts SourceParts ArmParts TableParts CompoundParts ItemParts TermParts QueryParts LimitParts CoreParts SpannedExpression
    expr_step constraint_step part_step result_step source_step arm_step table_step compound_step item_step term_step query_step limit_step core_step spanned_step

abbrev pub of_compound : CompoundPart → CompoundParts
of_compound = fold-CompoundPart Expression ConstraintParts PartParts ResultParts SourceParts ArmParts TableParts CompoundParts ItemParts TermParts QueryParts LimitParts CoreParts SpannedExpression
    expr_step constraint_step part_step result_step source_step arm_step table_step compound_step item_step term_step query_step limit_step core_step spanned_step

abbrev pub of_item : FromItem → ItemParts
of_item = fold-FromItem Expression ConstraintParts PartParts ResultParts SourceParts ArmParts TableParts CompoundParts ItemParts TermParts QueryParts LimitParts CoreParts SpannedExpression
    expr_step constraint_step part_step result_step source_step arm_step table_step compound_step item_step term_step query_step limit_step core_step spanned_step

abbrev pub of_term : OrderingTerm → TermParts
of_term = fold-OrderingTerm Expression ConstraintParts PartParts ResultParts SourceParts ArmParts TableParts CompoundParts ItemParts TermParts QueryParts LimitParts CoreParts SpannedExpression
    expr_step constraint_step part_step result_step source_step arm_step table_step compound_step item_step term_step query_step limit_step core_step spanned_step

abbrev pub of_limit : RowLimit → LimitParts
of_limit = fold-RowLimit Expression ConstraintParts PartParts ResultParts SourceParts ArmParts TableParts CompoundParts ItemParts TermParts QueryParts LimitParts CoreParts SpannedExpression
    expr_step constraint_step part_step result_step source_step arm_step table_step compound_step item_step term_step query_step limit_step core_step spanned_step

abbrev pub of_core : SelectCore → CoreParts
of_core = fold-SelectCore Expression ConstraintParts PartParts ResultParts SourceParts ArmParts TableParts CompoundParts ItemParts TermParts QueryParts LimitParts CoreParts SpannedExpression
    expr_step constraint_step part_step result_step source_step arm_step table_step compound_step item_step term_step query_step limit_step core_step spanned_step

abbrev pub of_spanned : SpannedExpr → SpannedExpression
of_spanned = fold-SpannedExpr Expression ConstraintParts PartParts ResultParts SourceParts ArmParts TableParts CompoundParts ItemParts TermParts QueryParts LimitParts CoreParts SpannedExpression
    expr_step constraint_step part_step result_step source_step arm_step table_step compound_step item_step term_step query_step limit_step core_step spanned_step

-- ---- statements that read or change rows, and triggers

abbrev pub of_option : Option Expr → Option Expression
of_option None = None
of_option (Some x) = Some (of_expr x)

abbrev pub of_insert_source : InsertSource → Option QueryParts
of_insert_source (source.Query q) = Some (of_query q)
of_insert_source source.Defaults = None

abbrev pub of_assignment : Assignment → SetParts
of_assignment a = record { column = a.column; value = of_expr a.value }

abbrev pub of_rows : RowCommand → RowParts
of_rows (rows_by.Query q) = Queries (of_query q)
of_rows (rows_by.Insert i) = Inserts (record { choice = i.choice; table = i.table; columns = i.columns; source = of_insert_source i.source })
of_rows (rows_by.Update u) = Updates (record { choice = u.choice; table = u.table; sets = map of_assignment u.assignments; filter = of_option u.filter })
of_rows (rows_by.Delete d) = Deletes (record { table = d.table; filter = of_option d.filter })

abbrev pub of_trigger : TriggerDefinition → TriggerParts
of_trigger t = record { time = t.time; event = t.event; condition = of_option t.condition; body = map of_rows t.body }

-- ---- so many levels of queries, views opened

-- a text with these FROMs around it, in which this may stand
abbrev pub outer_at : Around → Depth → List ℕ → List Level → Allowed → Outer
outer_at around depth text levels allowed = record { text = text; within = None; around = around; depth = depth; levels = levels; tables = []; allowed = allowed }

-- in the text of a view or trigger
abbrev pub within : List ℕ → Outer → Outer
within name o = record o { within = Some name }

-- what the tree of a text's view comes to is a parameter, so that examples need no tree
abbrev pub depth_of : (List ℕ → Query → QueryParts) → Around → ℕ → Depth
depth_of parts around zero = Bottom
depth_of parts around (suc d) =
    Deeper (λ name text q units. (parts text q).bound (within name (outer_at around (depth_of parts around d) text [] in_statement)) units) (depth_of parts around d)

-- of a statement, and of each WHEN and each statement of a trigger's body: these begin anew
abbrev pub full_depth : Around → Depth
full_depth around = depth_of (λ text. of_query) around most_queries
