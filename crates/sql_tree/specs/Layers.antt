-- Expressions and parts of queries, one layer of a tree at a time: a definition matches on what `of_..` gives.
use Rattle.sql_tree.specs.declared.expr.Arm.{Arm}
use Rattle.sql_tree.specs.declared.expr.Expr.{Expr, out-Expr}
use Rattle.sql_tree.specs.declared.expr.Expr.TheOpen.{JoinConstraint-F, QueryPart-F, ResultColumn-F, Source-F, Query-F, SelectCore-F, FromItem-F, Expr-F}
use Rattle.sql_tree.specs.declared.query.CommonTable.{CommonTable}
use Rattle.sql_tree.specs.declared.query.CompoundPart.{CompoundPart}
use Rattle.sql_tree.specs.declared.query.FromItem.{FromItem, out-FromItem}
use Rattle.sql_tree.specs.declared.query.JoinConstraint.{JoinConstraint, out-JoinConstraint}
use Rattle.sql_tree.specs.declared.query.OrderingTerm.{OrderingTerm}
use Rattle.sql_tree.specs.declared.query.Query.{Query, out-Query}
use Rattle.sql_tree.specs.declared.query.QueryPart.{QueryPart, out-QueryPart}
use Rattle.sql_tree.specs.declared.query.ResultColumn.{ResultColumn, out-ResultColumn}
use Rattle.sql_tree.specs.declared.query.RowLimit.{RowLimit}
use Rattle.sql_tree.specs.declared.query.SelectCore.{SelectCore, out-SelectCore}
use Rattle.sql_tree.specs.declared.query.Source.{Source, out-Source}
use Rattle.sql_tree.specs.declared.query.SpannedExpr.{SpannedExpr}

abbrev pub PartLayer : Type 0
PartLayer = QueryPart-F Expr JoinConstraint QueryPart ResultColumn Source Arm CommonTable CompoundPart FromItem OrderingTerm Query RowLimit SelectCore SpannedExpr

abbrev pub ResultLayer : Type 0
ResultLayer = ResultColumn-F Expr JoinConstraint QueryPart ResultColumn Source Arm CommonTable CompoundPart FromItem OrderingTerm Query RowLimit SelectCore SpannedExpr

abbrev pub SourceLayer : Type 0
SourceLayer = Source-F Expr JoinConstraint QueryPart ResultColumn Source Arm CommonTable CompoundPart FromItem OrderingTerm Query RowLimit SelectCore SpannedExpr

abbrev pub ConstraintLayer : Type 0
ConstraintLayer = JoinConstraint-F Expr JoinConstraint QueryPart ResultColumn Source Arm CommonTable CompoundPart FromItem OrderingTerm Query RowLimit SelectCore SpannedExpr

abbrev pub of_part : QueryPart → PartLayer
of_part = out-QueryPart

abbrev pub of_result : ResultColumn → ResultLayer
of_result = out-ResultColumn

abbrev pub of_source : Source → SourceLayer
of_source = out-Source

abbrev pub of_constraint : JoinConstraint → ConstraintLayer
of_constraint = out-JoinConstraint

abbrev pub QueryLayer : Type 0
QueryLayer = Query-F Expr JoinConstraint QueryPart ResultColumn Source Arm CommonTable CompoundPart FromItem OrderingTerm Query RowLimit SelectCore SpannedExpr

abbrev pub of_query : Query → QueryLayer
of_query = out-Query

abbrev pub SelectLayer : Type 0
SelectLayer = SelectCore-F Expr JoinConstraint QueryPart ResultColumn Source Arm CommonTable CompoundPart FromItem OrderingTerm Query RowLimit SelectCore SpannedExpr

abbrev pub of_select : SelectCore → SelectLayer
of_select = out-SelectCore

abbrev pub ItemLayer : Type 0
ItemLayer = FromItem-F Expr JoinConstraint QueryPart ResultColumn Source Arm CommonTable CompoundPart FromItem OrderingTerm Query RowLimit SelectCore SpannedExpr

abbrev pub of_item : FromItem → ItemLayer
of_item = out-FromItem

abbrev pub ExprLayer : Type 0
ExprLayer = Expr-F Expr JoinConstraint QueryPart ResultColumn Source Arm CommonTable CompoundPart FromItem OrderingTerm Query RowLimit SelectCore SpannedExpr

abbrev pub of_expr : Expr → ExprLayer
of_expr = out-Expr
