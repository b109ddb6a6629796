-- With an empty FROM beyond all others each query is bound the same: by induction over the trees.
use Rattle.std.proofs.Common.{Bool, List, [], ◌∷◌, map, Option, Some, None, refl, subst}
use Rattle.std.specs.List.{AllByRecursion}
use Rattle.sql_tree.specs.declared.expr.Expr.TheOpen.{Arm-F, CommonTable-F, CompoundPart-F, Expr-F, FromItem-F, JoinConstraint-F, OrderingTerm-F, Query-F, QueryPart-F, ResultColumn-F, RowLimit-F, SelectCore-F, Source-F, SpannedExpr-F}
use Rattle.sql_tree.specs.declared.expr.Expr.{Expr, fold-roll-Expr, map-Expr, roll-Expr}
use Rattle.sql_tree.specs.declared.query.JoinConstraint.{JoinConstraint, fold-roll-JoinConstraint, map-JoinConstraint, roll-JoinConstraint}
use Rattle.sql_tree.specs.declared.query.QueryPart.{QueryPart, fold-roll-QueryPart, map-QueryPart, roll-QueryPart}
use Rattle.sql_tree.specs.declared.query.ResultColumn.{ResultColumn, fold-roll-ResultColumn, map-ResultColumn, roll-ResultColumn}
use Rattle.sql_tree.specs.declared.query.Source.{Source, fold-roll-Source, map-Source, roll-Source}
use Rattle.sql_tree.specs.declared.expr.Arm.{Arm, fold-roll-Arm, map-Arm, roll-Arm}
use Rattle.sql_tree.specs.declared.query.CommonTable.{CommonTable, fold-roll-CommonTable, map-CommonTable, roll-CommonTable}
use Rattle.sql_tree.specs.declared.query.CompoundPart.{CompoundPart, fold-roll-CompoundPart, map-CompoundPart, roll-CompoundPart}
use Rattle.sql_tree.specs.declared.query.FromItem.{FromItem, fold-roll-FromItem, map-FromItem, roll-FromItem}
use Rattle.sql_tree.specs.declared.query.OrderingTerm.{OrderingTerm, fold-roll-OrderingTerm, map-OrderingTerm, roll-OrderingTerm}
use Rattle.sql_tree.specs.declared.query.Query.{Query, fold-roll-Query, ind-Query, map-Query, roll-Query}
use Rattle.sql_tree.specs.declared.query.RowLimit.{RowLimit, fold-roll-RowLimit, map-RowLimit, roll-RowLimit}
use Rattle.sql_tree.specs.declared.query.SelectCore.{SelectCore, fold-roll-SelectCore, map-SelectCore, roll-SelectCore}
use Rattle.sql_tree.specs.declared.query.SpannedExpr.{SpannedExpr, fold-roll-SpannedExpr, map-SpannedExpr, roll-SpannedExpr}
use Rattle.sql_bound.specs.Trees.{of_arm, of_compound, of_constraint, of_core, of_expr, of_item, of_limit, of_part, of_query, of_result, of_source, of_spanned, of_table, of_term}
use Rattle.bound_laws.proofs.BeyondFroms.{ConstraintAlike, ItemAlike, QueryPartsAlike, SourceAlike}
use Rattle.bound_laws.proofs.BeyondLaws.{ArmAlike, ExprAlike, any_alike, between_case, binary_case, call_case, case_case, case_holds, cast_case, collate_case, column_case, either, exists_case, in_case, in_query_case, like_case, scalar_case, table_column_case, unary_case}
use Rattle.bound_laws.proofs.BeyondQueries.{TableAlike, written_alike}
use Rattle.bound_laws.proofs.BeyondSelects.{CompoundAlike, CoreAlike, LimitAlike, PartAlike, ResultAlike, SpannedAlike, TermAlike}

-- ---- parts of a layer, told by elements of any types

module _ {Y B C : Type 0} (P : C → Type 0) (f : B → C) (of : Y → B) (each : (y : Y) → P (f (of y))) where
  each_of : (ys : List Y) → AllByRecursion P (map f (map of ys))
  each_of [] = tt
  each_of (y ∷ ys) = (each y, each_of ys)

module _ {Exprs JoinConstraints QueryParts ResultColumns Sources Arms CommonTables CompoundParts FromItems OrderingTerms Querys RowLimits SelectCores SpannedExprs : Type 0}
    (expr : Exprs → Expr) (expr_same : (y : Exprs) → ExprAlike (of_expr (expr y)))
    (constraint : JoinConstraints → JoinConstraint) (constraint_same : (y : JoinConstraints) → ConstraintAlike (of_constraint (constraint y)))
    (part : QueryParts → QueryPart) (part_same : (y : QueryParts) → PartAlike (of_part (part y)))
    (result : ResultColumns → ResultColumn) (result_same : (y : ResultColumns) → ResultAlike (of_result (result y)))
    (source : Sources → Source) (source_same : (y : Sources) → SourceAlike (of_source (source y)))
    (arm : Arms → Arm) (arm_same : (y : Arms) → ArmAlike (of_arm (arm y)))
    (table : CommonTables → CommonTable) (table_same : (y : CommonTables) → TableAlike (of_table (table y)))
    (compound : CompoundParts → CompoundPart) (compound_same : (y : CompoundParts) → CompoundAlike (of_compound (compound y)))
    (item : FromItems → FromItem) (item_same : (y : FromItems) → ItemAlike (of_item (item y)))
    (term : OrderingTerms → OrderingTerm) (term_same : (y : OrderingTerms) → TermAlike (of_term (term y)))
    (query : Querys → Query) (query_same : (y : Querys) → QueryPartsAlike (of_query (query y)))
    (limit : RowLimits → RowLimit) (limit_same : (y : RowLimits) → LimitAlike (of_limit (limit y)))
    (core : SelectCores → SelectCore) (core_same : (y : SelectCores) → CoreAlike (of_core (core y)))
    (spanned : SpannedExprs → SpannedExpr) (spanned_same : (y : SpannedExprs) → SpannedAlike (of_spanned (spanned y))) where
  exprs_same : (ys : List Exprs) → AllByRecursion ExprAlike (map of_expr (map expr ys))
  exprs_same ys = each_of ExprAlike of_expr expr expr_same ys

  arms_are : (ys : List Arms) → AllByRecursion ArmAlike (map of_arm (map arm ys))
  arms_are ys = each_of ArmAlike of_arm arm arm_same ys

  expr_step : (y : Expr-F Exprs JoinConstraints QueryParts ResultColumns Sources Arms CommonTables CompoundParts FromItems OrderingTerms Querys RowLimits SelectCores SpannedExprs) → ExprAlike (of_expr (roll-Expr (map-Expr Exprs JoinConstraints QueryParts ResultColumns Sources Arms CommonTables CompoundParts FromItems OrderingTerms Querys RowLimits SelectCores SpannedExprs Expr JoinConstraint QueryPart ResultColumn Source Arm CommonTable CompoundPart FromItem OrderingTerm Query RowLimit SelectCore SpannedExpr expr constraint part result source arm table compound item term query limit core spanned y)))
  expr_step (Expr-F.Literal t) = rw fold-roll-Expr (record { bound = (λ s others same w. refl); holds = λ o. refl })
  expr_step (Expr-F.Parameter t) = rw fold-roll-Expr (record { bound = (λ s others same w. refl); holds = λ o. refl })
  expr_step (Expr-F.Column t) = rw fold-roll-Expr (record { bound = column_case t; holds = λ o. refl })
  expr_step (Expr-F.TableColumn t c) = rw fold-roll-Expr (record { bound = table_column_case t c; holds = λ o. refl })
  expr_step (Expr-F.Unary u a) = rw fold-roll-Expr (record { bound = unary_case u (of_expr (expr a)) (expr_same a); holds = λ o. (expr_same a).holds o })
  expr_step (Expr-F.Binary b x y) = rw fold-roll-Expr (record { bound = binary_case b (of_expr (expr x)) (of_expr (expr y)) (expr_same x) (expr_same y); holds = λ o. either _ _ _ _ ((expr_same x).holds o) ((expr_same y).holds o) })
  expr_step (Expr-F.Between x y z) = rw fold-roll-Expr (record { bound = between_case (of_expr (expr x)) (of_expr (expr y)) (of_expr (expr z)) (expr_same x) (expr_same y) (expr_same z); holds = λ o. either _ _ _ _ (either _ _ _ _ ((expr_same x).holds o) ((expr_same y).holds o)) ((expr_same z).holds o) })
  expr_step (Expr-F.Like x y None) = rw fold-roll-Expr (record { bound = like_case (of_expr (expr x)) (of_expr (expr y)) None (expr_same x) (expr_same y) tt; holds = λ o. either _ _ _ _ (either _ _ _ _ ((expr_same x).holds o) ((expr_same y).holds o)) refl })
  expr_step (Expr-F.Like x y (Some z)) = rw fold-roll-Expr (record { bound = like_case (of_expr (expr x)) (of_expr (expr y)) (Some (of_expr (expr z))) (expr_same x) (expr_same y) (expr_same z); holds = λ o. either _ _ _ _ (either _ _ _ _ ((expr_same x).holds o) ((expr_same y).holds o)) ((expr_same z).holds o) })
  expr_step (Expr-F.In x others) = rw fold-roll-Expr (record { bound = in_case (of_expr (expr x)) (map of_expr (map expr others)) (expr_same x) (exprs_same others); holds = λ o. either _ _ _ _ ((expr_same x).holds o) (any_alike o (map of_expr (map expr others)) (exprs_same others)) })
  expr_step (Expr-F.InQuery x q) = rw fold-roll-Expr (record { bound = in_query_case (of_expr (expr x)) (of_query (query q)) (expr_same x) (query_same q).bound; holds = λ o. (expr_same x).holds o })
  expr_step (Expr-F.Subquery q) = rw fold-roll-Expr (record { bound = scalar_case (of_query (query q)) (query_same q).bound; holds = λ o. refl })
  expr_step (Expr-F.Exists q) = rw fold-roll-Expr (record { bound = exists_case (of_query (query q)) (query_same q).bound; holds = λ o. refl })
  expr_step (Expr-F.Collate x t) = rw fold-roll-Expr (record { bound = collate_case (of_expr (expr x)) t (expr_same x); holds = λ o. (expr_same x).holds o })
  expr_step (Expr-F.Cast x t) = rw fold-roll-Expr (record { bound = cast_case (of_expr (expr x)) t (expr_same x); holds = λ o. (expr_same x).holds o })
  expr_step (Expr-F.Call t how args None) = rw fold-roll-Expr (record { bound = call_case t how (map of_expr (map expr args)) None (exprs_same args) tt; holds = λ o. either _ _ _ _ (either _ _ _ _ refl (any_alike o (map of_expr (map expr args)) (exprs_same args))) refl })
  expr_step (Expr-F.Call t how args (Some filter)) = rw fold-roll-Expr (record { bound = call_case t how (map of_expr (map expr args)) (Some (of_expr (expr filter))) (exprs_same args) (expr_same filter); holds = λ o. either _ _ _ _ (either _ _ _ _ refl (any_alike o (map of_expr (map expr args)) (exprs_same args))) ((expr_same filter).holds o) })
  expr_step (Expr-F.Case None arms None) = rw fold-roll-Expr (record { bound = case_case None (map of_arm (map arm arms)) None tt (arms_are arms) tt; holds = λ o. case_holds o None (map of_arm (map arm arms)) None tt (arms_are arms) tt })
  expr_step (Expr-F.Case None arms (Some z)) = rw fold-roll-Expr (record { bound = case_case None (map of_arm (map arm arms)) (Some (of_expr (expr z))) tt (arms_are arms) (expr_same z); holds = λ o. case_holds o None (map of_arm (map arm arms)) (Some (of_expr (expr z))) tt (arms_are arms) (expr_same z) })
  expr_step (Expr-F.Case (Some x) arms None) = rw fold-roll-Expr (record { bound = case_case (Some (of_expr (expr x))) (map of_arm (map arm arms)) None (expr_same x) (arms_are arms) tt; holds = λ o. case_holds o (Some (of_expr (expr x))) (map of_arm (map arm arms)) None (expr_same x) (arms_are arms) tt })
  expr_step (Expr-F.Case (Some x) arms (Some z)) = rw fold-roll-Expr (record { bound = case_case (Some (of_expr (expr x))) (map of_arm (map arm arms)) (Some (of_expr (expr z))) (expr_same x) (arms_are arms) (expr_same z); holds = λ o. case_holds o (Some (of_expr (expr x))) (map of_arm (map arm arms)) (Some (of_expr (expr z))) (expr_same x) (arms_are arms) (expr_same z) })
  expr_step Expr-F.RaiseIgnore = rw fold-roll-Expr (record { bound = (λ s others same w. refl); holds = λ o. refl })
  expr_step (Expr-F.RaiseAbort t) = rw fold-roll-Expr (record { bound = (λ s others same w. refl); holds = λ o. refl })

  constraint_step : (y : JoinConstraint-F Exprs JoinConstraints QueryParts ResultColumns Sources Arms CommonTables CompoundParts FromItems OrderingTerms Querys RowLimits SelectCores SpannedExprs) → ConstraintAlike (of_constraint (roll-JoinConstraint (map-JoinConstraint Exprs JoinConstraints QueryParts ResultColumns Sources Arms CommonTables CompoundParts FromItems OrderingTerms Querys RowLimits SelectCores SpannedExprs Expr JoinConstraint QueryPart ResultColumn Source Arm CommonTable CompoundPart FromItem OrderingTerm Query RowLimit SelectCore SpannedExpr expr constraint part result source arm table compound item term query limit core spanned y)))
  constraint_step JoinConstraint-F.Unconstrained = rw fold-roll-JoinConstraint tt
  constraint_step (JoinConstraint-F.On x) = rw fold-roll-JoinConstraint (expr_same x)
  constraint_step (JoinConstraint-F.Using ts) = rw fold-roll-JoinConstraint tt

  rows_same : (rows : List (List Exprs)) → AllByRecursion (AllByRecursion ExprAlike) (map (map of_expr) (map (map expr) rows))
  rows_same [] = tt
  rows_same (row ∷ rows) = (exprs_same row, rows_same rows)

  part_step : (y : QueryPart-F Exprs JoinConstraints QueryParts ResultColumns Sources Arms CommonTables CompoundParts FromItems OrderingTerms Querys RowLimits SelectCores SpannedExprs) → PartAlike (of_part (roll-QueryPart (map-QueryPart Exprs JoinConstraints QueryParts ResultColumns Sources Arms CommonTables CompoundParts FromItems OrderingTerms Querys RowLimits SelectCores SpannedExprs Expr JoinConstraint QueryPart ResultColumn Source Arm CommonTable CompoundPart FromItem OrderingTerm Query RowLimit SelectCore SpannedExpr expr constraint part result source arm table compound item term query limit core spanned y)))
  part_step (QueryPart-F.Select c) = rw fold-roll-QueryPart (core_same c)
  part_step (QueryPart-F.Values rows) = rw fold-roll-QueryPart (rows_same rows)

  result_step : (y : ResultColumn-F Exprs JoinConstraints QueryParts ResultColumns Sources Arms CommonTables CompoundParts FromItems OrderingTerms Querys RowLimits SelectCores SpannedExprs) → ResultAlike (of_result (roll-ResultColumn (map-ResultColumn Exprs JoinConstraints QueryParts ResultColumns Sources Arms CommonTables CompoundParts FromItems OrderingTerms Querys RowLimits SelectCores SpannedExprs Expr JoinConstraint QueryPart ResultColumn Source Arm CommonTable CompoundPart FromItem OrderingTerm Query RowLimit SelectCore SpannedExpr expr constraint part result source arm table compound item term query limit core spanned y)))
  result_step ResultColumn-F.All = rw fold-roll-ResultColumn tt
  result_step (ResultColumn-F.AllOf t) = rw fold-roll-ResultColumn tt
  result_step (ResultColumn-F.Expression x None) = rw fold-roll-ResultColumn (spanned_same x)
  result_step (ResultColumn-F.Expression x (Some t)) = rw fold-roll-ResultColumn (spanned_same x)

  source_step : (y : Source-F Exprs JoinConstraints QueryParts ResultColumns Sources Arms CommonTables CompoundParts FromItems OrderingTerms Querys RowLimits SelectCores SpannedExprs) → SourceAlike (of_source (roll-Source (map-Source Exprs JoinConstraints QueryParts ResultColumns Sources Arms CommonTables CompoundParts FromItems OrderingTerms Querys RowLimits SelectCores SpannedExprs Expr JoinConstraint QueryPart ResultColumn Source Arm CommonTable CompoundPart FromItem OrderingTerm Query RowLimit SelectCore SpannedExpr expr constraint part result source arm table compound item term query limit core spanned y)))
  source_step (Source-F.Table t None) = rw fold-roll-Source tt
  source_step (Source-F.Table t (Some args)) = rw fold-roll-Source (exprs_same args)
  source_step (Source-F.Derived q) = rw fold-roll-Source (query_same q)

  arm_step : (y : Arm-F Exprs JoinConstraints QueryParts ResultColumns Sources Arms CommonTables CompoundParts FromItems OrderingTerms Querys RowLimits SelectCores SpannedExprs) → ArmAlike (of_arm (roll-Arm (map-Arm Exprs JoinConstraints QueryParts ResultColumns Sources Arms CommonTables CompoundParts FromItems OrderingTerms Querys RowLimits SelectCores SpannedExprs Expr JoinConstraint QueryPart ResultColumn Source Arm CommonTable CompoundPart FromItem OrderingTerm Query RowLimit SelectCore SpannedExpr expr constraint part result source arm table compound item term query limit core spanned y)))
  arm_step y = rw fold-roll-Arm (record { condition = expr_same y.condition; value = expr_same y.value })

  table_step : (y : CommonTable-F Exprs JoinConstraints QueryParts ResultColumns Sources Arms CommonTables CompoundParts FromItems OrderingTerms Querys RowLimits SelectCores SpannedExprs) → TableAlike (of_table (roll-CommonTable (map-CommonTable Exprs JoinConstraints QueryParts ResultColumns Sources Arms CommonTables CompoundParts FromItems OrderingTerms Querys RowLimits SelectCores SpannedExprs Expr JoinConstraint QueryPart ResultColumn Source Arm CommonTable CompoundPart FromItem OrderingTerm Query RowLimit SelectCore SpannedExpr expr constraint part result source arm table compound item term query limit core spanned y)))
  table_step y = rw fold-roll-CommonTable (query_same y.query)

  compound_step : (y : CompoundPart-F Exprs JoinConstraints QueryParts ResultColumns Sources Arms CommonTables CompoundParts FromItems OrderingTerms Querys RowLimits SelectCores SpannedExprs) → CompoundAlike (of_compound (roll-CompoundPart (map-CompoundPart Exprs JoinConstraints QueryParts ResultColumns Sources Arms CommonTables CompoundParts FromItems OrderingTerms Querys RowLimits SelectCores SpannedExprs Expr JoinConstraint QueryPart ResultColumn Source Arm CommonTable CompoundPart FromItem OrderingTerm Query RowLimit SelectCore SpannedExpr expr constraint part result source arm table compound item term query limit core spanned y)))
  compound_step y = rw fold-roll-CompoundPart (part_same y.part)

  item_step : (y : FromItem-F Exprs JoinConstraints QueryParts ResultColumns Sources Arms CommonTables CompoundParts FromItems OrderingTerms Querys RowLimits SelectCores SpannedExprs) → ItemAlike (of_item (roll-FromItem (map-FromItem Exprs JoinConstraints QueryParts ResultColumns Sources Arms CommonTables CompoundParts FromItems OrderingTerms Querys RowLimits SelectCores SpannedExprs Expr JoinConstraint QueryPart ResultColumn Source Arm CommonTable CompoundPart FromItem OrderingTerm Query RowLimit SelectCore SpannedExpr expr constraint part result source arm table compound item term query limit core spanned y)))
  item_step y = rw fold-roll-FromItem (record { source = source_same y.source; constraint = constraint_same y.constraint })

  term_step : (y : OrderingTerm-F Exprs JoinConstraints QueryParts ResultColumns Sources Arms CommonTables CompoundParts FromItems OrderingTerms Querys RowLimits SelectCores SpannedExprs) → TermAlike (of_term (roll-OrderingTerm (map-OrderingTerm Exprs JoinConstraints QueryParts ResultColumns Sources Arms CommonTables CompoundParts FromItems OrderingTerms Querys RowLimits SelectCores SpannedExprs Expr JoinConstraint QueryPart ResultColumn Source Arm CommonTable CompoundPart FromItem OrderingTerm Query RowLimit SelectCore SpannedExpr expr constraint part result source arm table compound item term query limit core spanned y)))
  term_step y = rw fold-roll-OrderingTerm (spanned_same y.key)

  query_layer : (ts : List CommonTables) (p : QueryParts) (os : List CompoundParts) (ds : List OrderingTerms) (l : Option RowLimits) → QueryPartsAlike (of_query (roll-Query (map-Query Exprs JoinConstraints QueryParts ResultColumns Sources Arms CommonTables CompoundParts FromItems OrderingTerms Querys RowLimits SelectCores SpannedExprs Expr JoinConstraint QueryPart ResultColumn Source Arm CommonTable CompoundPart FromItem OrderingTerm Query RowLimit SelectCore SpannedExpr expr constraint part result source arm table compound item term query limit core spanned (record { with = ts; first = p; others = os; order_by = ds; limit = l }))))
  query_layer ts p os ds None = rw fold-roll-Query (written_alike (record { tables = map of_table (map table ts); first = of_part (part p); others = map of_compound (map compound os); order = map of_term (map term ds); limit = None }) (record { tables = each_of TableAlike of_table table table_same ts; first = part_same p; others = each_of CompoundAlike of_compound compound compound_same os; order = each_of TermAlike of_term term term_same ds; limit = tt }))
  query_layer ts p os ds (Some l) = rw fold-roll-Query (written_alike (record { tables = map of_table (map table ts); first = of_part (part p); others = map of_compound (map compound os); order = map of_term (map term ds); limit = Some (of_limit (limit l)) }) (record { tables = each_of TableAlike of_table table table_same ts; first = part_same p; others = each_of CompoundAlike of_compound compound compound_same os; order = each_of TermAlike of_term term term_same ds; limit = limit_same l }))

  query_step : (y : Query-F Exprs JoinConstraints QueryParts ResultColumns Sources Arms CommonTables CompoundParts FromItems OrderingTerms Querys RowLimits SelectCores SpannedExprs) → QueryPartsAlike (of_query (roll-Query (map-Query Exprs JoinConstraints QueryParts ResultColumns Sources Arms CommonTables CompoundParts FromItems OrderingTerms Querys RowLimits SelectCores SpannedExprs Expr JoinConstraint QueryPart ResultColumn Source Arm CommonTable CompoundPart FromItem OrderingTerm Query RowLimit SelectCore SpannedExpr expr constraint part result source arm table compound item term query limit core spanned y)))
  query_step y = query_layer y.with y.first y.others y.order_by y.limit

  limit_layer : (c : Exprs) (f : Option Exprs) → LimitAlike (of_limit (roll-RowLimit (map-RowLimit Exprs JoinConstraints QueryParts ResultColumns Sources Arms CommonTables CompoundParts FromItems OrderingTerms Querys RowLimits SelectCores SpannedExprs Expr JoinConstraint QueryPart ResultColumn Source Arm CommonTable CompoundPart FromItem OrderingTerm Query RowLimit SelectCore SpannedExpr expr constraint part result source arm table compound item term query limit core spanned (record { count = c; offset = f }))))
  limit_layer c None = rw fold-roll-RowLimit (record { count = expr_same c; offset = tt })
  limit_layer c (Some f) = rw fold-roll-RowLimit (record { count = expr_same c; offset = expr_same f })

  limit_step : (y : RowLimit-F Exprs JoinConstraints QueryParts ResultColumns Sources Arms CommonTables CompoundParts FromItems OrderingTerms Querys RowLimits SelectCores SpannedExprs) → LimitAlike (of_limit (roll-RowLimit (map-RowLimit Exprs JoinConstraints QueryParts ResultColumns Sources Arms CommonTables CompoundParts FromItems OrderingTerms Querys RowLimits SelectCores SpannedExprs Expr JoinConstraint QueryPart ResultColumn Source Arm CommonTable CompoundPart FromItem OrderingTerm Query RowLimit SelectCore SpannedExpr expr constraint part result source arm table compound item term query limit core spanned y)))
  limit_step y = limit_layer y.count y.offset

  core_layer : (distinct : Bool) (rs : List ResultColumns) (is : List FromItems) (f : Option Exprs) (gs : List SpannedExprs) (h : Option Exprs) → CoreAlike (of_core (roll-SelectCore (map-SelectCore Exprs JoinConstraints QueryParts ResultColumns Sources Arms CommonTables CompoundParts FromItems OrderingTerms Querys RowLimits SelectCores SpannedExprs Expr JoinConstraint QueryPart ResultColumn Source Arm CommonTable CompoundPart FromItem OrderingTerm Query RowLimit SelectCore SpannedExpr expr constraint part result source arm table compound item term query limit core spanned (record { distinct = distinct; results = rs; from = is; filter = f; group_by = gs; having = h }))))
  core_layer distinct rs is None gs None = rw fold-roll-SelectCore (record { results = each_of ResultAlike of_result result result_same rs; from = each_of ItemAlike of_item item item_same is; filter = tt; group_by = each_of SpannedAlike of_spanned spanned spanned_same gs; having = tt })
  core_layer distinct rs is None gs (Some h) = rw fold-roll-SelectCore (record { results = each_of ResultAlike of_result result result_same rs; from = each_of ItemAlike of_item item item_same is; filter = tt; group_by = each_of SpannedAlike of_spanned spanned spanned_same gs; having = expr_same h })
  core_layer distinct rs is (Some f) gs None = rw fold-roll-SelectCore (record { results = each_of ResultAlike of_result result result_same rs; from = each_of ItemAlike of_item item item_same is; filter = expr_same f; group_by = each_of SpannedAlike of_spanned spanned spanned_same gs; having = tt })
  core_layer distinct rs is (Some f) gs (Some h) = rw fold-roll-SelectCore (record { results = each_of ResultAlike of_result result result_same rs; from = each_of ItemAlike of_item item item_same is; filter = expr_same f; group_by = each_of SpannedAlike of_spanned spanned spanned_same gs; having = expr_same h })

  core_step : (y : SelectCore-F Exprs JoinConstraints QueryParts ResultColumns Sources Arms CommonTables CompoundParts FromItems OrderingTerms Querys RowLimits SelectCores SpannedExprs) → CoreAlike (of_core (roll-SelectCore (map-SelectCore Exprs JoinConstraints QueryParts ResultColumns Sources Arms CommonTables CompoundParts FromItems OrderingTerms Querys RowLimits SelectCores SpannedExprs Expr JoinConstraint QueryPart ResultColumn Source Arm CommonTable CompoundPart FromItem OrderingTerm Query RowLimit SelectCore SpannedExpr expr constraint part result source arm table compound item term query limit core spanned y)))
  core_step y = core_layer y.distinct y.results y.from y.filter y.group_by y.having

  spanned_step : (y : SpannedExpr-F Exprs JoinConstraints QueryParts ResultColumns Sources Arms CommonTables CompoundParts FromItems OrderingTerms Querys RowLimits SelectCores SpannedExprs) → SpannedAlike (of_spanned (roll-SpannedExpr (map-SpannedExpr Exprs JoinConstraints QueryParts ResultColumns Sources Arms CommonTables CompoundParts FromItems OrderingTerms Querys RowLimits SelectCores SpannedExprs Expr JoinConstraint QueryPart ResultColumn Source Arm CommonTable CompoundPart FromItem OrderingTerm Query RowLimit SelectCore SpannedExpr expr constraint part result source arm table compound item term query limit core spanned y)))
  spanned_step y = rw fold-roll-SpannedExpr (expr_same y.expr)

-- ---- every tree

abbrev IsExpr : Expr → Type 0
IsExpr z = ExprAlike (of_expr z)

abbrev IsJoinConstraint : JoinConstraint → Type 0
IsJoinConstraint z = ConstraintAlike (of_constraint z)

abbrev IsQueryPart : QueryPart → Type 0
IsQueryPart z = PartAlike (of_part z)

abbrev IsResultColumn : ResultColumn → Type 0
IsResultColumn z = ResultAlike (of_result z)

abbrev IsSource : Source → Type 0
IsSource z = SourceAlike (of_source z)

abbrev IsArm : Arm → Type 0
IsArm z = ArmAlike (of_arm z)

abbrev IsCommonTable : CommonTable → Type 0
IsCommonTable z = TableAlike (of_table z)

abbrev IsCompoundPart : CompoundPart → Type 0
IsCompoundPart z = CompoundAlike (of_compound z)

abbrev IsFromItem : FromItem → Type 0
IsFromItem z = ItemAlike (of_item z)

abbrev IsOrderingTerm : OrderingTerm → Type 0
IsOrderingTerm z = TermAlike (of_term z)

abbrev IsQuery : Query → Type 0
IsQuery z = QueryPartsAlike (of_query z)

abbrev IsRowLimit : RowLimit → Type 0
IsRowLimit z = LimitAlike (of_limit z)

abbrev IsSelectCore : SelectCore → Type 0
IsSelectCore z = CoreAlike (of_core z)

abbrev IsSpannedExpr : SpannedExpr → Type 0
IsSpannedExpr z = SpannedAlike (of_spanned z)

pub query_is_alike : (q : Query) → QueryPartsAlike (of_query q)
query_is_alike = ind-Query IsExpr IsJoinConstraint IsQueryPart IsResultColumn IsSource IsArm IsCommonTable IsCompoundPart IsFromItem IsOrderingTerm IsQuery IsRowLimit IsSelectCore IsSpannedExpr
    (λ l y is. subst (λ z. IsExpr (roll-Expr z)) is (expr_step (λ v. v.0) (λ v. v.1) (λ v. v.0) (λ v. v.1) (λ v. v.0) (λ v. v.1) (λ v. v.0) (λ v. v.1) (λ v. v.0) (λ v. v.1) (λ v. v.0) (λ v. v.1) (λ v. v.0) (λ v. v.1) (λ v. v.0) (λ v. v.1) (λ v. v.0) (λ v. v.1) (λ v. v.0) (λ v. v.1) (λ v. v.0) (λ v. v.1) (λ v. v.0) (λ v. v.1) (λ v. v.0) (λ v. v.1) (λ v. v.0) (λ v. v.1) y))
    (λ l y is. subst (λ z. IsJoinConstraint (roll-JoinConstraint z)) is (constraint_step (λ v. v.0) (λ v. v.1) (λ v. v.0) (λ v. v.1) (λ v. v.0) (λ v. v.1) (λ v. v.0) (λ v. v.1) (λ v. v.0) (λ v. v.1) (λ v. v.0) (λ v. v.1) (λ v. v.0) (λ v. v.1) (λ v. v.0) (λ v. v.1) (λ v. v.0) (λ v. v.1) (λ v. v.0) (λ v. v.1) (λ v. v.0) (λ v. v.1) (λ v. v.0) (λ v. v.1) (λ v. v.0) (λ v. v.1) (λ v. v.0) (λ v. v.1) y))
    (λ l y is. subst (λ z. IsQueryPart (roll-QueryPart z)) is (part_step (λ v. v.0) (λ v. v.1) (λ v. v.0) (λ v. v.1) (λ v. v.0) (λ v. v.1) (λ v. v.0) (λ v. v.1) (λ v. v.0) (λ v. v.1) (λ v. v.0) (λ v. v.1) (λ v. v.0) (λ v. v.1) (λ v. v.0) (λ v. v.1) (λ v. v.0) (λ v. v.1) (λ v. v.0) (λ v. v.1) (λ v. v.0) (λ v. v.1) (λ v. v.0) (λ v. v.1) (λ v. v.0) (λ v. v.1) (λ v. v.0) (λ v. v.1) y))
    (λ l y is. subst (λ z. IsResultColumn (roll-ResultColumn z)) is (result_step (λ v. v.0) (λ v. v.1) (λ v. v.0) (λ v. v.1) (λ v. v.0) (λ v. v.1) (λ v. v.0) (λ v. v.1) (λ v. v.0) (λ v. v.1) (λ v. v.0) (λ v. v.1) (λ v. v.0) (λ v. v.1) (λ v. v.0) (λ v. v.1) (λ v. v.0) (λ v. v.1) (λ v. v.0) (λ v. v.1) (λ v. v.0) (λ v. v.1) (λ v. v.0) (λ v. v.1) (λ v. v.0) (λ v. v.1) (λ v. v.0) (λ v. v.1) y))
    (λ l y is. subst (λ z. IsSource (roll-Source z)) is (source_step (λ v. v.0) (λ v. v.1) (λ v. v.0) (λ v. v.1) (λ v. v.0) (λ v. v.1) (λ v. v.0) (λ v. v.1) (λ v. v.0) (λ v. v.1) (λ v. v.0) (λ v. v.1) (λ v. v.0) (λ v. v.1) (λ v. v.0) (λ v. v.1) (λ v. v.0) (λ v. v.1) (λ v. v.0) (λ v. v.1) (λ v. v.0) (λ v. v.1) (λ v. v.0) (λ v. v.1) (λ v. v.0) (λ v. v.1) (λ v. v.0) (λ v. v.1) y))
    (λ l y is. subst (λ z. IsArm (roll-Arm z)) is (arm_step (λ v. v.0) (λ v. v.1) (λ v. v.0) (λ v. v.1) (λ v. v.0) (λ v. v.1) (λ v. v.0) (λ v. v.1) (λ v. v.0) (λ v. v.1) (λ v. v.0) (λ v. v.1) (λ v. v.0) (λ v. v.1) (λ v. v.0) (λ v. v.1) (λ v. v.0) (λ v. v.1) (λ v. v.0) (λ v. v.1) (λ v. v.0) (λ v. v.1) (λ v. v.0) (λ v. v.1) (λ v. v.0) (λ v. v.1) (λ v. v.0) (λ v. v.1) y))
    (λ l y is. subst (λ z. IsCommonTable (roll-CommonTable z)) is (table_step (λ v. v.0) (λ v. v.1) (λ v. v.0) (λ v. v.1) (λ v. v.0) (λ v. v.1) (λ v. v.0) (λ v. v.1) (λ v. v.0) (λ v. v.1) (λ v. v.0) (λ v. v.1) (λ v. v.0) (λ v. v.1) (λ v. v.0) (λ v. v.1) (λ v. v.0) (λ v. v.1) (λ v. v.0) (λ v. v.1) (λ v. v.0) (λ v. v.1) (λ v. v.0) (λ v. v.1) (λ v. v.0) (λ v. v.1) (λ v. v.0) (λ v. v.1) y))
    (λ l y is. subst (λ z. IsCompoundPart (roll-CompoundPart z)) is (compound_step (λ v. v.0) (λ v. v.1) (λ v. v.0) (λ v. v.1) (λ v. v.0) (λ v. v.1) (λ v. v.0) (λ v. v.1) (λ v. v.0) (λ v. v.1) (λ v. v.0) (λ v. v.1) (λ v. v.0) (λ v. v.1) (λ v. v.0) (λ v. v.1) (λ v. v.0) (λ v. v.1) (λ v. v.0) (λ v. v.1) (λ v. v.0) (λ v. v.1) (λ v. v.0) (λ v. v.1) (λ v. v.0) (λ v. v.1) (λ v. v.0) (λ v. v.1) y))
    (λ l y is. subst (λ z. IsFromItem (roll-FromItem z)) is (item_step (λ v. v.0) (λ v. v.1) (λ v. v.0) (λ v. v.1) (λ v. v.0) (λ v. v.1) (λ v. v.0) (λ v. v.1) (λ v. v.0) (λ v. v.1) (λ v. v.0) (λ v. v.1) (λ v. v.0) (λ v. v.1) (λ v. v.0) (λ v. v.1) (λ v. v.0) (λ v. v.1) (λ v. v.0) (λ v. v.1) (λ v. v.0) (λ v. v.1) (λ v. v.0) (λ v. v.1) (λ v. v.0) (λ v. v.1) (λ v. v.0) (λ v. v.1) y))
    (λ l y is. subst (λ z. IsOrderingTerm (roll-OrderingTerm z)) is (term_step (λ v. v.0) (λ v. v.1) (λ v. v.0) (λ v. v.1) (λ v. v.0) (λ v. v.1) (λ v. v.0) (λ v. v.1) (λ v. v.0) (λ v. v.1) (λ v. v.0) (λ v. v.1) (λ v. v.0) (λ v. v.1) (λ v. v.0) (λ v. v.1) (λ v. v.0) (λ v. v.1) (λ v. v.0) (λ v. v.1) (λ v. v.0) (λ v. v.1) (λ v. v.0) (λ v. v.1) (λ v. v.0) (λ v. v.1) (λ v. v.0) (λ v. v.1) y))
    (λ l y is. subst (λ z. IsQuery (roll-Query z)) is (query_step (λ v. v.0) (λ v. v.1) (λ v. v.0) (λ v. v.1) (λ v. v.0) (λ v. v.1) (λ v. v.0) (λ v. v.1) (λ v. v.0) (λ v. v.1) (λ v. v.0) (λ v. v.1) (λ v. v.0) (λ v. v.1) (λ v. v.0) (λ v. v.1) (λ v. v.0) (λ v. v.1) (λ v. v.0) (λ v. v.1) (λ v. v.0) (λ v. v.1) (λ v. v.0) (λ v. v.1) (λ v. v.0) (λ v. v.1) (λ v. v.0) (λ v. v.1) y))
    (λ l y is. subst (λ z. IsRowLimit (roll-RowLimit z)) is (limit_step (λ v. v.0) (λ v. v.1) (λ v. v.0) (λ v. v.1) (λ v. v.0) (λ v. v.1) (λ v. v.0) (λ v. v.1) (λ v. v.0) (λ v. v.1) (λ v. v.0) (λ v. v.1) (λ v. v.0) (λ v. v.1) (λ v. v.0) (λ v. v.1) (λ v. v.0) (λ v. v.1) (λ v. v.0) (λ v. v.1) (λ v. v.0) (λ v. v.1) (λ v. v.0) (λ v. v.1) (λ v. v.0) (λ v. v.1) (λ v. v.0) (λ v. v.1) y))
    (λ l y is. subst (λ z. IsSelectCore (roll-SelectCore z)) is (core_step (λ v. v.0) (λ v. v.1) (λ v. v.0) (λ v. v.1) (λ v. v.0) (λ v. v.1) (λ v. v.0) (λ v. v.1) (λ v. v.0) (λ v. v.1) (λ v. v.0) (λ v. v.1) (λ v. v.0) (λ v. v.1) (λ v. v.0) (λ v. v.1) (λ v. v.0) (λ v. v.1) (λ v. v.0) (λ v. v.1) (λ v. v.0) (λ v. v.1) (λ v. v.0) (λ v. v.1) (λ v. v.0) (λ v. v.1) (λ v. v.0) (λ v. v.1) y))
    (λ l y is. subst (λ z. IsSpannedExpr (roll-SpannedExpr z)) is (spanned_step (λ v. v.0) (λ v. v.1) (λ v. v.0) (λ v. v.1) (λ v. v.0) (λ v. v.1) (λ v. v.0) (λ v. v.1) (λ v. v.0) (λ v. v.1) (λ v. v.0) (λ v. v.1) (λ v. v.0) (λ v. v.1) (λ v. v.0) (λ v. v.1) (λ v. v.0) (λ v. v.1) (λ v. v.0) (λ v. v.1) (λ v. v.0) (λ v. v.1) (λ v. v.0) (λ v. v.1) (λ v. v.0) (λ v. v.1) (λ v. v.0) (λ v. v.1) y))
