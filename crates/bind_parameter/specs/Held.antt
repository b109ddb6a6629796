-- Whether a parameter stands in each sort of tree, by the same fold.
use Rattle.std.specs.Prelude.{Bool}
use Rattle.sql_tree.specs.declared.expr.Arm.{Arm, fold-Arm}
use Rattle.sql_tree.specs.declared.query.JoinConstraint.{JoinConstraint, fold-JoinConstraint}
use Rattle.sql_tree.specs.declared.query.QueryPart.{QueryPart, fold-QueryPart}
use Rattle.sql_tree.specs.declared.query.ResultColumn.{ResultColumn, fold-ResultColumn}
use Rattle.sql_tree.specs.declared.query.Source.{Source, fold-Source}
use Rattle.sql_tree.specs.declared.query.CommonTable.{CommonTable, fold-CommonTable}
use Rattle.sql_tree.specs.declared.query.CompoundPart.{CompoundPart, fold-CompoundPart}
use Rattle.sql_tree.specs.declared.query.FromItem.{FromItem, fold-FromItem}
use Rattle.sql_tree.specs.declared.query.OrderingTerm.{OrderingTerm, fold-OrderingTerm}
use Rattle.sql_tree.specs.declared.query.RowLimit.{RowLimit, fold-RowLimit}
use Rattle.sql_tree.specs.declared.query.SelectCore.{SelectCore, fold-SelectCore}
use Rattle.sql_tree.specs.declared.query.SpannedExpr.{SpannedExpr, fold-SpannedExpr}
use Rattle.sql_bound.specs.Parameters.{arm_step, compound_step, constraint_step, core_step, expr_step, item_step, limit_step, part_step, query_step, result_step, source_step, spanned_step, table_step, term_step}

abbrev pub arm_has : Arm → Bool
arm_has = fold-Arm Bool Bool Bool Bool Bool Bool Bool Bool Bool Bool Bool Bool Bool Bool
    expr_step constraint_step part_step result_step source_step arm_step table_step compound_step item_step term_step query_step limit_step core_step spanned_step

abbrev pub constraint_has : JoinConstraint → Bool
constraint_has = fold-JoinConstraint Bool Bool Bool Bool Bool Bool Bool Bool Bool Bool Bool Bool Bool Bool
    expr_step constraint_step part_step result_step source_step arm_step table_step compound_step item_step term_step query_step limit_step core_step spanned_step

abbrev pub part_has : QueryPart → Bool
part_has = fold-QueryPart Bool Bool Bool Bool Bool Bool Bool Bool Bool Bool Bool Bool Bool Bool
    expr_step constraint_step part_step result_step source_step arm_step table_step compound_step item_step term_step query_step limit_step core_step spanned_step

abbrev pub result_has : ResultColumn → Bool
result_has = fold-ResultColumn Bool Bool Bool Bool Bool Bool Bool Bool Bool Bool Bool Bool Bool Bool
    expr_step constraint_step part_step result_step source_step arm_step table_step compound_step item_step term_step query_step limit_step core_step spanned_step

abbrev pub source_has : Source → Bool
source_has = fold-Source Bool Bool Bool Bool Bool Bool Bool Bool Bool Bool Bool Bool Bool Bool
    expr_step constraint_step part_step result_step source_step arm_step table_step compound_step item_step term_step query_step limit_step core_step spanned_step

abbrev pub table_has : CommonTable → Bool
table_has = fold-CommonTable Bool Bool Bool Bool Bool Bool Bool Bool Bool Bool Bool Bool Bool Bool
    expr_step constraint_step part_step result_step source_step arm_step table_step compound_step item_step term_step query_step limit_step core_step spanned_step

abbrev pub compound_has : CompoundPart → Bool
compound_has = fold-CompoundPart Bool Bool Bool Bool Bool Bool Bool Bool Bool Bool Bool Bool Bool Bool
    expr_step constraint_step part_step result_step source_step arm_step table_step compound_step item_step term_step query_step limit_step core_step spanned_step

abbrev pub item_has : FromItem → Bool
item_has = fold-FromItem Bool Bool Bool Bool Bool Bool Bool Bool Bool Bool Bool Bool Bool Bool
    expr_step constraint_step part_step result_step source_step arm_step table_step compound_step item_step term_step query_step limit_step core_step spanned_step

abbrev pub term_has : OrderingTerm → Bool
term_has = fold-OrderingTerm Bool Bool Bool Bool Bool Bool Bool Bool Bool Bool Bool Bool Bool Bool
    expr_step constraint_step part_step result_step source_step arm_step table_step compound_step item_step term_step query_step limit_step core_step spanned_step

abbrev pub limit_has : RowLimit → Bool
limit_has = fold-RowLimit Bool Bool Bool Bool Bool Bool Bool Bool Bool Bool Bool Bool Bool Bool
    expr_step constraint_step part_step result_step source_step arm_step table_step compound_step item_step term_step query_step limit_step core_step spanned_step

abbrev pub core_has : SelectCore → Bool
core_has = fold-SelectCore Bool Bool Bool Bool Bool Bool Bool Bool Bool Bool Bool Bool Bool Bool
    expr_step constraint_step part_step result_step source_step arm_step table_step compound_step item_step term_step query_step limit_step core_step spanned_step

abbrev pub spanned_has : SpannedExpr → Bool
spanned_has = fold-SpannedExpr Bool Bool Bool Bool Bool Bool Bool Bool Bool Bool Bool Bool Bool Bool
    expr_step constraint_step part_step result_step source_step arm_step table_step compound_step item_step term_step query_step limit_step core_step spanned_step
