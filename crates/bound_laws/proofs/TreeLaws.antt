-- Each part of every tree is good: by induction over the trees.
use Rattle.std.proofs.Common.{Bool, List, [], ◌∷◌, map, Option, Some, None, subst}
use Rattle.std.specs.List.{AllByRecursion}
use Rattle.sql_tree.specs.declared.expr.Expr.TheOpen.{Arm-F, CommonTable-F, CompoundPart-F, Expr-F, FromItem-F, JoinConstraint-F, OrderingTerm-F, Query-F, QueryPart-F, ResultColumn-F, RowLimit-F, SelectCore-F, Source-F, SpannedExpr-F}
use Rattle.sql_tree.specs.declared.expr.Expr.{Expr, fold-roll-Expr, ind-Expr, map-Expr, roll-Expr}
use Rattle.sql_tree.specs.declared.query.JoinConstraint.{JoinConstraint, fold-roll-JoinConstraint, map-JoinConstraint, roll-JoinConstraint}
use Rattle.sql_tree.specs.declared.query.QueryPart.{QueryPart, fold-roll-QueryPart, map-QueryPart, roll-QueryPart}
use Rattle.sql_tree.specs.declared.query.ResultColumn.{ResultColumn, fold-roll-ResultColumn, map-ResultColumn, roll-ResultColumn}
use Rattle.sql_tree.specs.declared.query.Source.{Source, fold-roll-Source, map-Source, roll-Source}
use Rattle.sql_tree.specs.declared.expr.Arm.{Arm, fold-roll-Arm, map-Arm, roll-Arm}
use Rattle.sql_tree.specs.declared.query.CommonTable.{CommonTable, fold-roll-CommonTable, map-CommonTable, roll-CommonTable}
use Rattle.sql_tree.specs.declared.query.CompoundPart.{CompoundPart, fold-roll-CompoundPart, map-CompoundPart, roll-CompoundPart}
use Rattle.sql_tree.specs.declared.query.FromItem.{FromItem, fold-roll-FromItem, map-FromItem, roll-FromItem}
use Rattle.sql_tree.specs.declared.query.OrderingTerm.{OrderingTerm, fold-roll-OrderingTerm, map-OrderingTerm, roll-OrderingTerm}
use Rattle.sql_tree.specs.declared.query.Query.{Query, fold-roll-Query, ind-Query, map-Query, roll-Query}
use Rattle.sql_tree.specs.declared.query.RowLimit.{RowLimit, fold-roll-RowLimit, map-RowLimit, roll-RowLimit}
use Rattle.sql_tree.specs.declared.query.SelectCore.{SelectCore, fold-roll-SelectCore, map-SelectCore, roll-SelectCore}
use Rattle.sql_tree.specs.declared.query.SpannedExpr.{SpannedExpr, fold-roll-SpannedExpr, map-SpannedExpr, roll-SpannedExpr}
use Rattle.sql_words.specs.Spelled.{name_at}
use Rattle.bound_tree.specs.Exprs as e
use Rattle.sql_bound.specs.Expressions.{text_at}
use Rattle.sql_bound.specs.Operands.{literal_operand, over}
use Rattle.sql_bound.specs.Trees.{of_arm, of_compound, of_constraint, of_core, of_expr, of_item, of_limit, of_part, of_query, of_result, of_source, of_spanned, of_table, of_term}
use Rattle.bound_laws.proofs.ExprLaws.{ArmBinds, ExprBinds, allowed, between_binds, binary_binds, call_binds, case_binds, cast_binds, collate_binds, exists_binds, in_binds, in_query_binds, leaf_binds, like_binds, raise_binds, scalar_binds, unary_binds}
use Rattle.bound_laws.proofs.Goods.{GoodCompound, GoodConstraint, GoodCore, GoodExpression, GoodItem, GoodLimit, GoodPart, GoodQuery, GoodResult, GoodSource, GoodSpanned, GoodTable, GoodTerm}
use Rattle.bound_laws.proofs.Lists.{all_weaker}
use Rattle.bound_laws.proofs.NameLaws.{called_column_binds, column_binds}
use Rattle.bound_laws.proofs.QueryLaws.{written_good}
use Rattle.bound_laws.proofs.QuietLaws.{quiets}
use Rattle.bound_laws.proofs.SplitLaws.{splits}
use Rattle.bound_laws.proofs.States.{Binds}

-- ---- parts of a layer, told by elements of any types

module _ {Y B C : Type 0} (P : C → Type 0) (f : B → C) (of : Y → B) (each : (y : Y) → P (f (of y))) where
  each_of : (ys : List Y) → AllByRecursion P (map f (map of ys))
  each_of [] = tt
  each_of (y ∷ ys) = (each y, each_of ys)

-- what an expression is split into, and whether it takes aggregates, is known of each
good_expression : (x : Expr) → Binds (of_expr x).bound → GoodExpression (of_expr x)
good_expression x binds = record { binds = binds; splits = splits x; quiet = quiets x }

module _ {Exprs JoinConstraints QueryParts ResultColumns Sources Arms CommonTables CompoundParts FromItems OrderingTerms Querys RowLimits SelectCores SpannedExprs : Type 0}
    (expr : Exprs → Expr) (expr_good : (y : Exprs) → GoodExpression (of_expr (expr y)))
    (constraint : JoinConstraints → JoinConstraint) (constraint_good : (y : JoinConstraints) → GoodConstraint (of_constraint (constraint y)))
    (part : QueryParts → QueryPart) (part_good : (y : QueryParts) → GoodPart (of_part (part y)))
    (result : ResultColumns → ResultColumn) (result_good : (y : ResultColumns) → GoodResult (of_result (result y)))
    (source : Sources → Source) (source_good : (y : Sources) → GoodSource (of_source (source y)))
    (arm : Arms → Arm) (arm_good : (y : Arms) → ArmBinds (of_arm (arm y)))
    (table : CommonTables → CommonTable) (table_good : (y : CommonTables) → GoodTable (of_table (table y)))
    (compound : CompoundParts → CompoundPart) (compound_good : (y : CompoundParts) → GoodCompound (of_compound (compound y)))
    (item : FromItems → FromItem) (item_good : (y : FromItems) → GoodItem (of_item (item y)))
    (term : OrderingTerms → OrderingTerm) (term_good : (y : OrderingTerms) → GoodTerm (of_term (term y)))
    (query : Querys → Query) (query_good : (y : Querys) → GoodQuery (of_query (query y)))
    (limit : RowLimits → RowLimit) (limit_good : (y : RowLimits) → GoodLimit (of_limit (limit y)))
    (core : SelectCores → SelectCore) (core_good : (y : SelectCores) → GoodCore (of_core (core y)))
    (spanned : SpannedExprs → SpannedExpr) (spanned_good : (y : SpannedExprs) → GoodSpanned (of_spanned (spanned y))) where
  exprs_good : (ys : List Exprs) → AllByRecursion GoodExpression (map of_expr (map expr ys))
  exprs_good ys = each_of GoodExpression of_expr expr expr_good ys

  exprs_bind : (ys : List Exprs) → AllByRecursion ExprBinds (map of_expr (map expr ys))
  exprs_bind ys = all_weaker GoodExpression ExprBinds (λ x g. g.binds) (map of_expr (map expr ys)) (exprs_good ys)

  arms_bind : (ys : List Arms) → AllByRecursion ArmBinds (map of_arm (map arm ys))
  arms_bind ys = each_of ArmBinds of_arm arm arm_good ys

  expr_step : (y : Expr-F Exprs JoinConstraints QueryParts ResultColumns Sources Arms CommonTables CompoundParts FromItems OrderingTerms Querys RowLimits SelectCores SpannedExprs) → Binds (of_expr (roll-Expr (map-Expr Exprs JoinConstraints QueryParts ResultColumns Sources Arms CommonTables CompoundParts FromItems OrderingTerms Querys RowLimits SelectCores SpannedExprs Expr JoinConstraint QueryPart ResultColumn Source Arm CommonTable CompoundPart FromItem OrderingTerm Query RowLimit SelectCore SpannedExpr expr constraint part result source arm table compound item term query limit core spanned y))).bound
  expr_step (Expr-F.Literal t) = rw fold-roll-Expr (λ h s scope w fits. leaf_binds h (literal_operand s.outer.text t) s w fits (λ r. tt))
  expr_step (Expr-F.Parameter t) = rw fold-roll-Expr (λ h s scope w fits. allowed _ s.outer.allowed.parameters _ _ (leaf_binds h (over [] (e.Parameter _)) s w fits (λ r. tt)))
  expr_step (Expr-F.Column t) = rw fold-roll-Expr (λ h s scope w fits. column_binds h (name_at s.outer.text t) s scope w fits)
  expr_step (Expr-F.TableColumn t c) = rw fold-roll-Expr (λ h s scope w fits. called_column_binds h (name_at s.outer.text t) (name_at s.outer.text c) s scope w fits)
  expr_step (Expr-F.Unary u a) = rw fold-roll-Expr (λ h. unary_binds h u (of_expr (expr a)) (expr_good a).binds)
  expr_step (Expr-F.Binary b x y) = rw fold-roll-Expr (λ h. binary_binds h b (of_expr (expr x)) (of_expr (expr y)) (expr_good x).binds (expr_good y).binds)
  expr_step (Expr-F.Between x y z) = rw fold-roll-Expr (λ h. between_binds h (of_expr (expr x)) (of_expr (expr y)) (of_expr (expr z)) (expr_good x).binds (expr_good y).binds (expr_good z).binds)
  expr_step (Expr-F.Like x y None) = rw fold-roll-Expr (λ h. like_binds h (of_expr (expr x)) (of_expr (expr y)) None (expr_good x).binds (expr_good y).binds tt)
  expr_step (Expr-F.Like x y (Some z)) = rw fold-roll-Expr (λ h. like_binds h (of_expr (expr x)) (of_expr (expr y)) (Some (of_expr (expr z))) (expr_good x).binds (expr_good y).binds (expr_good z).binds)
  expr_step (Expr-F.In x others) = rw fold-roll-Expr (λ h. in_binds h (of_expr (expr x)) (map of_expr (map expr others)) (expr_good x).binds (exprs_bind others))
  expr_step (Expr-F.InQuery x q) = rw fold-roll-Expr (λ h. in_query_binds h (of_expr (expr x)) (of_query (query q)) (expr_good x).binds (query_good q).asks)
  expr_step (Expr-F.Subquery q) = rw fold-roll-Expr (λ h. scalar_binds h (of_query (query q)) (query_good q).asks)
  expr_step (Expr-F.Exists q) = rw fold-roll-Expr (λ h. exists_binds h (of_query (query q)) (query_good q).asks)
  expr_step (Expr-F.Collate x t) = rw fold-roll-Expr (λ h. collate_binds h (of_expr (expr x)) t (expr_good x).binds)
  expr_step (Expr-F.Cast x t) = rw fold-roll-Expr (λ h. cast_binds h (of_expr (expr x)) t (expr_good x).binds)
  expr_step (Expr-F.Call t how args None) = rw fold-roll-Expr (λ h s scope w fits. call_binds h (name_at s.outer.text t) _ how (map of_expr (map expr args)) None (exprs_bind args) tt s scope w fits)
  expr_step (Expr-F.Call t how args (Some filter)) = rw fold-roll-Expr (λ h s scope w fits. call_binds h (name_at s.outer.text t) _ how (map of_expr (map expr args)) (Some (of_expr (expr filter))) (exprs_bind args) (expr_good filter).binds s scope w fits)
  expr_step (Expr-F.Case None arms None) = rw fold-roll-Expr (λ h. case_binds h None (map of_arm (map arm arms)) None tt (arms_bind arms) tt)
  expr_step (Expr-F.Case None arms (Some z)) = rw fold-roll-Expr (λ h. case_binds h None (map of_arm (map arm arms)) (Some (of_expr (expr z))) tt (arms_bind arms) (expr_good z).binds)
  expr_step (Expr-F.Case (Some x) arms None) = rw fold-roll-Expr (λ h. case_binds h (Some (of_expr (expr x))) (map of_arm (map arm arms)) None (expr_good x).binds (arms_bind arms) tt)
  expr_step (Expr-F.Case (Some x) arms (Some z)) = rw fold-roll-Expr (λ h. case_binds h (Some (of_expr (expr x))) (map of_arm (map arm arms)) (Some (of_expr (expr z))) (expr_good x).binds (arms_bind arms) (expr_good z).binds)
  expr_step Expr-F.RaiseIgnore = rw fold-roll-Expr (λ h s scope w fits. raise_binds h e.RaiseIgnore (λ r. tt) s w fits)
  expr_step (Expr-F.RaiseAbort t) = rw fold-roll-Expr (λ h s scope w fits. raise_binds h (e.RaiseAbort (text_at s.outer.text t)) (λ r. tt) s w fits)

  constraint_step : (y : JoinConstraint-F Exprs JoinConstraints QueryParts ResultColumns Sources Arms CommonTables CompoundParts FromItems OrderingTerms Querys RowLimits SelectCores SpannedExprs) → GoodConstraint (of_constraint (roll-JoinConstraint (map-JoinConstraint Exprs JoinConstraints QueryParts ResultColumns Sources Arms CommonTables CompoundParts FromItems OrderingTerms Querys RowLimits SelectCores SpannedExprs Expr JoinConstraint QueryPart ResultColumn Source Arm CommonTable CompoundPart FromItem OrderingTerm Query RowLimit SelectCore SpannedExpr expr constraint part result source arm table compound item term query limit core spanned y)))
  constraint_step JoinConstraint-F.Unconstrained = rw fold-roll-JoinConstraint tt
  constraint_step (JoinConstraint-F.On x) = rw fold-roll-JoinConstraint (expr_good x)
  constraint_step (JoinConstraint-F.Using ts) = rw fold-roll-JoinConstraint tt

  rows_good : (rows : List (List Exprs)) → AllByRecursion (AllByRecursion GoodExpression) (map (map of_expr) (map (map expr) rows))
  rows_good [] = tt
  rows_good (row ∷ rows) = (exprs_good row, rows_good rows)

  part_step : (y : QueryPart-F Exprs JoinConstraints QueryParts ResultColumns Sources Arms CommonTables CompoundParts FromItems OrderingTerms Querys RowLimits SelectCores SpannedExprs) → GoodPart (of_part (roll-QueryPart (map-QueryPart Exprs JoinConstraints QueryParts ResultColumns Sources Arms CommonTables CompoundParts FromItems OrderingTerms Querys RowLimits SelectCores SpannedExprs Expr JoinConstraint QueryPart ResultColumn Source Arm CommonTable CompoundPart FromItem OrderingTerm Query RowLimit SelectCore SpannedExpr expr constraint part result source arm table compound item term query limit core spanned y)))
  part_step (QueryPart-F.Select c) = rw fold-roll-QueryPart (core_good c)
  part_step (QueryPart-F.Values rows) = rw fold-roll-QueryPart (rows_good rows)

  result_step : (y : ResultColumn-F Exprs JoinConstraints QueryParts ResultColumns Sources Arms CommonTables CompoundParts FromItems OrderingTerms Querys RowLimits SelectCores SpannedExprs) → GoodResult (of_result (roll-ResultColumn (map-ResultColumn Exprs JoinConstraints QueryParts ResultColumns Sources Arms CommonTables CompoundParts FromItems OrderingTerms Querys RowLimits SelectCores SpannedExprs Expr JoinConstraint QueryPart ResultColumn Source Arm CommonTable CompoundPart FromItem OrderingTerm Query RowLimit SelectCore SpannedExpr expr constraint part result source arm table compound item term query limit core spanned y)))
  result_step ResultColumn-F.All = rw fold-roll-ResultColumn tt
  result_step (ResultColumn-F.AllOf t) = rw fold-roll-ResultColumn tt
  result_step (ResultColumn-F.Expression x None) = rw fold-roll-ResultColumn (spanned_good x)
  result_step (ResultColumn-F.Expression x (Some t)) = rw fold-roll-ResultColumn (spanned_good x)

  source_step : (y : Source-F Exprs JoinConstraints QueryParts ResultColumns Sources Arms CommonTables CompoundParts FromItems OrderingTerms Querys RowLimits SelectCores SpannedExprs) → GoodSource (of_source (roll-Source (map-Source Exprs JoinConstraints QueryParts ResultColumns Sources Arms CommonTables CompoundParts FromItems OrderingTerms Querys RowLimits SelectCores SpannedExprs Expr JoinConstraint QueryPart ResultColumn Source Arm CommonTable CompoundPart FromItem OrderingTerm Query RowLimit SelectCore SpannedExpr expr constraint part result source arm table compound item term query limit core spanned y)))
  source_step (Source-F.Table t None) = rw fold-roll-Source tt
  source_step (Source-F.Table t (Some args)) = rw fold-roll-Source (exprs_good args)
  source_step (Source-F.Derived q) = rw fold-roll-Source (query_good q)

  arm_step : (y : Arm-F Exprs JoinConstraints QueryParts ResultColumns Sources Arms CommonTables CompoundParts FromItems OrderingTerms Querys RowLimits SelectCores SpannedExprs) → ArmBinds (of_arm (roll-Arm (map-Arm Exprs JoinConstraints QueryParts ResultColumns Sources Arms CommonTables CompoundParts FromItems OrderingTerms Querys RowLimits SelectCores SpannedExprs Expr JoinConstraint QueryPart ResultColumn Source Arm CommonTable CompoundPart FromItem OrderingTerm Query RowLimit SelectCore SpannedExpr expr constraint part result source arm table compound item term query limit core spanned y)))
  arm_step y = rw fold-roll-Arm (record { condition = (expr_good y.condition).binds; value = (expr_good y.value).binds })

  table_step : (y : CommonTable-F Exprs JoinConstraints QueryParts ResultColumns Sources Arms CommonTables CompoundParts FromItems OrderingTerms Querys RowLimits SelectCores SpannedExprs) → GoodTable (of_table (roll-CommonTable (map-CommonTable Exprs JoinConstraints QueryParts ResultColumns Sources Arms CommonTables CompoundParts FromItems OrderingTerms Querys RowLimits SelectCores SpannedExprs Expr JoinConstraint QueryPart ResultColumn Source Arm CommonTable CompoundPart FromItem OrderingTerm Query RowLimit SelectCore SpannedExpr expr constraint part result source arm table compound item term query limit core spanned y)))
  table_step y = rw fold-roll-CommonTable (query_good y.query)

  compound_step : (y : CompoundPart-F Exprs JoinConstraints QueryParts ResultColumns Sources Arms CommonTables CompoundParts FromItems OrderingTerms Querys RowLimits SelectCores SpannedExprs) → GoodCompound (of_compound (roll-CompoundPart (map-CompoundPart Exprs JoinConstraints QueryParts ResultColumns Sources Arms CommonTables CompoundParts FromItems OrderingTerms Querys RowLimits SelectCores SpannedExprs Expr JoinConstraint QueryPart ResultColumn Source Arm CommonTable CompoundPart FromItem OrderingTerm Query RowLimit SelectCore SpannedExpr expr constraint part result source arm table compound item term query limit core spanned y)))
  compound_step y = rw fold-roll-CompoundPart (part_good y.part)

  item_step : (y : FromItem-F Exprs JoinConstraints QueryParts ResultColumns Sources Arms CommonTables CompoundParts FromItems OrderingTerms Querys RowLimits SelectCores SpannedExprs) → GoodItem (of_item (roll-FromItem (map-FromItem Exprs JoinConstraints QueryParts ResultColumns Sources Arms CommonTables CompoundParts FromItems OrderingTerms Querys RowLimits SelectCores SpannedExprs Expr JoinConstraint QueryPart ResultColumn Source Arm CommonTable CompoundPart FromItem OrderingTerm Query RowLimit SelectCore SpannedExpr expr constraint part result source arm table compound item term query limit core spanned y)))
  item_step y = rw fold-roll-FromItem (record { source = source_good y.source; constraint = constraint_good y.constraint })

  term_step : (y : OrderingTerm-F Exprs JoinConstraints QueryParts ResultColumns Sources Arms CommonTables CompoundParts FromItems OrderingTerms Querys RowLimits SelectCores SpannedExprs) → GoodTerm (of_term (roll-OrderingTerm (map-OrderingTerm Exprs JoinConstraints QueryParts ResultColumns Sources Arms CommonTables CompoundParts FromItems OrderingTerms Querys RowLimits SelectCores SpannedExprs Expr JoinConstraint QueryPart ResultColumn Source Arm CommonTable CompoundPart FromItem OrderingTerm Query RowLimit SelectCore SpannedExpr expr constraint part result source arm table compound item term query limit core spanned y)))
  term_step y = rw fold-roll-OrderingTerm (spanned_good y.key)

  query_layer : (ts : List CommonTables) (p : QueryParts) (os : List CompoundParts) (ds : List OrderingTerms) (l : Option RowLimits) → GoodQuery (of_query (roll-Query (map-Query Exprs JoinConstraints QueryParts ResultColumns Sources Arms CommonTables CompoundParts FromItems OrderingTerms Querys RowLimits SelectCores SpannedExprs Expr JoinConstraint QueryPart ResultColumn Source Arm CommonTable CompoundPart FromItem OrderingTerm Query RowLimit SelectCore SpannedExpr expr constraint part result source arm table compound item term query limit core spanned (record { with = ts; first = p; others = os; order_by = ds; limit = l }))))
  query_layer ts p os ds None = rw fold-roll-Query (written_good (record { tables = map of_table (map table ts); first = of_part (part p); others = map of_compound (map compound os); order = map of_term (map term ds); limit = None }) (record { tables = each_of GoodTable of_table table table_good ts; first = part_good p; others = each_of GoodCompound of_compound compound compound_good os; order = each_of GoodTerm of_term term term_good ds; limit = tt }))
  query_layer ts p os ds (Some l) = rw fold-roll-Query (written_good (record { tables = map of_table (map table ts); first = of_part (part p); others = map of_compound (map compound os); order = map of_term (map term ds); limit = Some (of_limit (limit l)) }) (record { tables = each_of GoodTable of_table table table_good ts; first = part_good p; others = each_of GoodCompound of_compound compound compound_good os; order = each_of GoodTerm of_term term term_good ds; limit = limit_good l }))

  query_step : (y : Query-F Exprs JoinConstraints QueryParts ResultColumns Sources Arms CommonTables CompoundParts FromItems OrderingTerms Querys RowLimits SelectCores SpannedExprs) → GoodQuery (of_query (roll-Query (map-Query Exprs JoinConstraints QueryParts ResultColumns Sources Arms CommonTables CompoundParts FromItems OrderingTerms Querys RowLimits SelectCores SpannedExprs Expr JoinConstraint QueryPart ResultColumn Source Arm CommonTable CompoundPart FromItem OrderingTerm Query RowLimit SelectCore SpannedExpr expr constraint part result source arm table compound item term query limit core spanned y)))
  query_step y = query_layer y.with y.first y.others y.order_by y.limit

  limit_layer : (c : Exprs) (f : Option Exprs) → GoodLimit (of_limit (roll-RowLimit (map-RowLimit Exprs JoinConstraints QueryParts ResultColumns Sources Arms CommonTables CompoundParts FromItems OrderingTerms Querys RowLimits SelectCores SpannedExprs Expr JoinConstraint QueryPart ResultColumn Source Arm CommonTable CompoundPart FromItem OrderingTerm Query RowLimit SelectCore SpannedExpr expr constraint part result source arm table compound item term query limit core spanned (record { count = c; offset = f }))))
  limit_layer c None = rw fold-roll-RowLimit (record { count = expr_good c; offset = tt })
  limit_layer c (Some f) = rw fold-roll-RowLimit (record { count = expr_good c; offset = expr_good f })

  limit_step : (y : RowLimit-F Exprs JoinConstraints QueryParts ResultColumns Sources Arms CommonTables CompoundParts FromItems OrderingTerms Querys RowLimits SelectCores SpannedExprs) → GoodLimit (of_limit (roll-RowLimit (map-RowLimit Exprs JoinConstraints QueryParts ResultColumns Sources Arms CommonTables CompoundParts FromItems OrderingTerms Querys RowLimits SelectCores SpannedExprs Expr JoinConstraint QueryPart ResultColumn Source Arm CommonTable CompoundPart FromItem OrderingTerm Query RowLimit SelectCore SpannedExpr expr constraint part result source arm table compound item term query limit core spanned y)))
  limit_step y = limit_layer y.count y.offset

  core_layer : (distinct : Bool) (rs : List ResultColumns) (is : List FromItems) (f : Option Exprs) (gs : List SpannedExprs) (h : Option Exprs) → GoodCore (of_core (roll-SelectCore (map-SelectCore Exprs JoinConstraints QueryParts ResultColumns Sources Arms CommonTables CompoundParts FromItems OrderingTerms Querys RowLimits SelectCores SpannedExprs Expr JoinConstraint QueryPart ResultColumn Source Arm CommonTable CompoundPart FromItem OrderingTerm Query RowLimit SelectCore SpannedExpr expr constraint part result source arm table compound item term query limit core spanned (record { distinct = distinct; results = rs; from = is; filter = f; group_by = gs; having = h }))))
  core_layer distinct rs is None gs None = rw fold-roll-SelectCore (record { results = each_of GoodResult of_result result result_good rs; from = each_of GoodItem of_item item item_good is; filter = tt; group_by = each_of GoodSpanned of_spanned spanned spanned_good gs; having = tt })
  core_layer distinct rs is None gs (Some h) = rw fold-roll-SelectCore (record { results = each_of GoodResult of_result result result_good rs; from = each_of GoodItem of_item item item_good is; filter = tt; group_by = each_of GoodSpanned of_spanned spanned spanned_good gs; having = expr_good h })
  core_layer distinct rs is (Some f) gs None = rw fold-roll-SelectCore (record { results = each_of GoodResult of_result result result_good rs; from = each_of GoodItem of_item item item_good is; filter = expr_good f; group_by = each_of GoodSpanned of_spanned spanned spanned_good gs; having = tt })
  core_layer distinct rs is (Some f) gs (Some h) = rw fold-roll-SelectCore (record { results = each_of GoodResult of_result result result_good rs; from = each_of GoodItem of_item item item_good is; filter = expr_good f; group_by = each_of GoodSpanned of_spanned spanned spanned_good gs; having = expr_good h })

  core_step : (y : SelectCore-F Exprs JoinConstraints QueryParts ResultColumns Sources Arms CommonTables CompoundParts FromItems OrderingTerms Querys RowLimits SelectCores SpannedExprs) → GoodCore (of_core (roll-SelectCore (map-SelectCore Exprs JoinConstraints QueryParts ResultColumns Sources Arms CommonTables CompoundParts FromItems OrderingTerms Querys RowLimits SelectCores SpannedExprs Expr JoinConstraint QueryPart ResultColumn Source Arm CommonTable CompoundPart FromItem OrderingTerm Query RowLimit SelectCore SpannedExpr expr constraint part result source arm table compound item term query limit core spanned y)))
  core_step y = core_layer y.distinct y.results y.from y.filter y.group_by y.having

  spanned_step : (y : SpannedExpr-F Exprs JoinConstraints QueryParts ResultColumns Sources Arms CommonTables CompoundParts FromItems OrderingTerms Querys RowLimits SelectCores SpannedExprs) → GoodSpanned (of_spanned (roll-SpannedExpr (map-SpannedExpr Exprs JoinConstraints QueryParts ResultColumns Sources Arms CommonTables CompoundParts FromItems OrderingTerms Querys RowLimits SelectCores SpannedExprs Expr JoinConstraint QueryPart ResultColumn Source Arm CommonTable CompoundPart FromItem OrderingTerm Query RowLimit SelectCore SpannedExpr expr constraint part result source arm table compound item term query limit core spanned y)))
  spanned_step y = rw fold-roll-SpannedExpr (expr_good y.expr)

-- ---- every tree

abbrev IsExpr : Expr → Type 0
IsExpr z = GoodExpression (of_expr z)

abbrev IsJoinConstraint : JoinConstraint → Type 0
IsJoinConstraint z = GoodConstraint (of_constraint z)

abbrev IsQueryPart : QueryPart → Type 0
IsQueryPart z = GoodPart (of_part z)

abbrev IsResultColumn : ResultColumn → Type 0
IsResultColumn z = GoodResult (of_result z)

abbrev IsSource : Source → Type 0
IsSource z = GoodSource (of_source z)

abbrev IsArm : Arm → Type 0
IsArm z = ArmBinds (of_arm z)

abbrev IsCommonTable : CommonTable → Type 0
IsCommonTable z = GoodTable (of_table z)

abbrev IsCompoundPart : CompoundPart → Type 0
IsCompoundPart z = GoodCompound (of_compound z)

abbrev IsFromItem : FromItem → Type 0
IsFromItem z = GoodItem (of_item z)

abbrev IsOrderingTerm : OrderingTerm → Type 0
IsOrderingTerm z = GoodTerm (of_term z)

abbrev IsQuery : Query → Type 0
IsQuery z = GoodQuery (of_query z)

abbrev IsRowLimit : RowLimit → Type 0
IsRowLimit z = GoodLimit (of_limit z)

abbrev IsSelectCore : SelectCore → Type 0
IsSelectCore z = GoodCore (of_core z)

abbrev IsSpannedExpr : SpannedExpr → Type 0
IsSpannedExpr z = GoodSpanned (of_spanned z)

pub expression_is_good : (x : Expr) → GoodExpression (of_expr x)
expression_is_good = ind-Expr IsExpr IsJoinConstraint IsQueryPart IsResultColumn IsSource IsArm IsCommonTable IsCompoundPart IsFromItem IsOrderingTerm IsQuery IsRowLimit IsSelectCore IsSpannedExpr
    (λ l y is. subst (λ z. IsExpr (roll-Expr z)) is (good_expression _ (expr_step (λ v. v.0) (λ v. v.1) (λ v. v.0) (λ v. v.1) (λ v. v.0) (λ v. v.1) (λ v. v.0) (λ v. v.1) (λ v. v.0) (λ v. v.1) (λ v. v.0) (λ v. v.1) (λ v. v.0) (λ v. v.1) (λ v. v.0) (λ v. v.1) (λ v. v.0) (λ v. v.1) (λ v. v.0) (λ v. v.1) (λ v. v.0) (λ v. v.1) (λ v. v.0) (λ v. v.1) (λ v. v.0) (λ v. v.1) (λ v. v.0) (λ v. v.1) y)))
    (λ l y is. subst (λ z. IsJoinConstraint (roll-JoinConstraint z)) is (constraint_step (λ v. v.0) (λ v. v.1) (λ v. v.0) (λ v. v.1) (λ v. v.0) (λ v. v.1) (λ v. v.0) (λ v. v.1) (λ v. v.0) (λ v. v.1) (λ v. v.0) (λ v. v.1) (λ v. v.0) (λ v. v.1) (λ v. v.0) (λ v. v.1) (λ v. v.0) (λ v. v.1) (λ v. v.0) (λ v. v.1) (λ v. v.0) (λ v. v.1) (λ v. v.0) (λ v. v.1) (λ v. v.0) (λ v. v.1) (λ v. v.0) (λ v. v.1) y))
    (λ l y is. subst (λ z. IsQueryPart (roll-QueryPart z)) is (part_step (λ v. v.0) (λ v. v.1) (λ v. v.0) (λ v. v.1) (λ v. v.0) (λ v. v.1) (λ v. v.0) (λ v. v.1) (λ v. v.0) (λ v. v.1) (λ v. v.0) (λ v. v.1) (λ v. v.0) (λ v. v.1) (λ v. v.0) (λ v. v.1) (λ v. v.0) (λ v. v.1) (λ v. v.0) (λ v. v.1) (λ v. v.0) (λ v. v.1) (λ v. v.0) (λ v. v.1) (λ v. v.0) (λ v. v.1) (λ v. v.0) (λ v. v.1) y))
    (λ l y is. subst (λ z. IsResultColumn (roll-ResultColumn z)) is (result_step (λ v. v.0) (λ v. v.1) (λ v. v.0) (λ v. v.1) (λ v. v.0) (λ v. v.1) (λ v. v.0) (λ v. v.1) (λ v. v.0) (λ v. v.1) (λ v. v.0) (λ v. v.1) (λ v. v.0) (λ v. v.1) (λ v. v.0) (λ v. v.1) (λ v. v.0) (λ v. v.1) (λ v. v.0) (λ v. v.1) (λ v. v.0) (λ v. v.1) (λ v. v.0) (λ v. v.1) (λ v. v.0) (λ v. v.1) (λ v. v.0) (λ v. v.1) y))
    (λ l y is. subst (λ z. IsSource (roll-Source z)) is (source_step (λ v. v.0) (λ v. v.1) (λ v. v.0) (λ v. v.1) (λ v. v.0) (λ v. v.1) (λ v. v.0) (λ v. v.1) (λ v. v.0) (λ v. v.1) (λ v. v.0) (λ v. v.1) (λ v. v.0) (λ v. v.1) (λ v. v.0) (λ v. v.1) (λ v. v.0) (λ v. v.1) (λ v. v.0) (λ v. v.1) (λ v. v.0) (λ v. v.1) (λ v. v.0) (λ v. v.1) (λ v. v.0) (λ v. v.1) (λ v. v.0) (λ v. v.1) y))
    (λ l y is. subst (λ z. IsArm (roll-Arm z)) is (arm_step (λ v. v.0) (λ v. v.1) (λ v. v.0) (λ v. v.1) (λ v. v.0) (λ v. v.1) (λ v. v.0) (λ v. v.1) (λ v. v.0) (λ v. v.1) (λ v. v.0) (λ v. v.1) (λ v. v.0) (λ v. v.1) (λ v. v.0) (λ v. v.1) (λ v. v.0) (λ v. v.1) (λ v. v.0) (λ v. v.1) (λ v. v.0) (λ v. v.1) (λ v. v.0) (λ v. v.1) (λ v. v.0) (λ v. v.1) (λ v. v.0) (λ v. v.1) y))
    (λ l y is. subst (λ z. IsCommonTable (roll-CommonTable z)) is (table_step (λ v. v.0) (λ v. v.1) (λ v. v.0) (λ v. v.1) (λ v. v.0) (λ v. v.1) (λ v. v.0) (λ v. v.1) (λ v. v.0) (λ v. v.1) (λ v. v.0) (λ v. v.1) (λ v. v.0) (λ v. v.1) (λ v. v.0) (λ v. v.1) (λ v. v.0) (λ v. v.1) (λ v. v.0) (λ v. v.1) (λ v. v.0) (λ v. v.1) (λ v. v.0) (λ v. v.1) (λ v. v.0) (λ v. v.1) (λ v. v.0) (λ v. v.1) y))
    (λ l y is. subst (λ z. IsCompoundPart (roll-CompoundPart z)) is (compound_step (λ v. v.0) (λ v. v.1) (λ v. v.0) (λ v. v.1) (λ v. v.0) (λ v. v.1) (λ v. v.0) (λ v. v.1) (λ v. v.0) (λ v. v.1) (λ v. v.0) (λ v. v.1) (λ v. v.0) (λ v. v.1) (λ v. v.0) (λ v. v.1) (λ v. v.0) (λ v. v.1) (λ v. v.0) (λ v. v.1) (λ v. v.0) (λ v. v.1) (λ v. v.0) (λ v. v.1) (λ v. v.0) (λ v. v.1) (λ v. v.0) (λ v. v.1) y))
    (λ l y is. subst (λ z. IsFromItem (roll-FromItem z)) is (item_step (λ v. v.0) (λ v. v.1) (λ v. v.0) (λ v. v.1) (λ v. v.0) (λ v. v.1) (λ v. v.0) (λ v. v.1) (λ v. v.0) (λ v. v.1) (λ v. v.0) (λ v. v.1) (λ v. v.0) (λ v. v.1) (λ v. v.0) (λ v. v.1) (λ v. v.0) (λ v. v.1) (λ v. v.0) (λ v. v.1) (λ v. v.0) (λ v. v.1) (λ v. v.0) (λ v. v.1) (λ v. v.0) (λ v. v.1) (λ v. v.0) (λ v. v.1) y))
    (λ l y is. subst (λ z. IsOrderingTerm (roll-OrderingTerm z)) is (term_step (λ v. v.0) (λ v. v.1) (λ v. v.0) (λ v. v.1) (λ v. v.0) (λ v. v.1) (λ v. v.0) (λ v. v.1) (λ v. v.0) (λ v. v.1) (λ v. v.0) (λ v. v.1) (λ v. v.0) (λ v. v.1) (λ v. v.0) (λ v. v.1) (λ v. v.0) (λ v. v.1) (λ v. v.0) (λ v. v.1) (λ v. v.0) (λ v. v.1) (λ v. v.0) (λ v. v.1) (λ v. v.0) (λ v. v.1) (λ v. v.0) (λ v. v.1) y))
    (λ l y is. subst (λ z. IsQuery (roll-Query z)) is (query_step (λ v. v.0) (λ v. v.1) (λ v. v.0) (λ v. v.1) (λ v. v.0) (λ v. v.1) (λ v. v.0) (λ v. v.1) (λ v. v.0) (λ v. v.1) (λ v. v.0) (λ v. v.1) (λ v. v.0) (λ v. v.1) (λ v. v.0) (λ v. v.1) (λ v. v.0) (λ v. v.1) (λ v. v.0) (λ v. v.1) (λ v. v.0) (λ v. v.1) (λ v. v.0) (λ v. v.1) (λ v. v.0) (λ v. v.1) (λ v. v.0) (λ v. v.1) y))
    (λ l y is. subst (λ z. IsRowLimit (roll-RowLimit z)) is (limit_step (λ v. v.0) (λ v. v.1) (λ v. v.0) (λ v. v.1) (λ v. v.0) (λ v. v.1) (λ v. v.0) (λ v. v.1) (λ v. v.0) (λ v. v.1) (λ v. v.0) (λ v. v.1) (λ v. v.0) (λ v. v.1) (λ v. v.0) (λ v. v.1) (λ v. v.0) (λ v. v.1) (λ v. v.0) (λ v. v.1) (λ v. v.0) (λ v. v.1) (λ v. v.0) (λ v. v.1) (λ v. v.0) (λ v. v.1) (λ v. v.0) (λ v. v.1) y))
    (λ l y is. subst (λ z. IsSelectCore (roll-SelectCore z)) is (core_step (λ v. v.0) (λ v. v.1) (λ v. v.0) (λ v. v.1) (λ v. v.0) (λ v. v.1) (λ v. v.0) (λ v. v.1) (λ v. v.0) (λ v. v.1) (λ v. v.0) (λ v. v.1) (λ v. v.0) (λ v. v.1) (λ v. v.0) (λ v. v.1) (λ v. v.0) (λ v. v.1) (λ v. v.0) (λ v. v.1) (λ v. v.0) (λ v. v.1) (λ v. v.0) (λ v. v.1) (λ v. v.0) (λ v. v.1) (λ v. v.0) (λ v. v.1) y))
    (λ l y is. subst (λ z. IsSpannedExpr (roll-SpannedExpr z)) is (spanned_step (λ v. v.0) (λ v. v.1) (λ v. v.0) (λ v. v.1) (λ v. v.0) (λ v. v.1) (λ v. v.0) (λ v. v.1) (λ v. v.0) (λ v. v.1) (λ v. v.0) (λ v. v.1) (λ v. v.0) (λ v. v.1) (λ v. v.0) (λ v. v.1) (λ v. v.0) (λ v. v.1) (λ v. v.0) (λ v. v.1) (λ v. v.0) (λ v. v.1) (λ v. v.0) (λ v. v.1) (λ v. v.0) (λ v. v.1) (λ v. v.0) (λ v. v.1) y))

pub query_is_good : (q : Query) → GoodQuery (of_query q)
query_is_good = ind-Query IsExpr IsJoinConstraint IsQueryPart IsResultColumn IsSource IsArm IsCommonTable IsCompoundPart IsFromItem IsOrderingTerm IsQuery IsRowLimit IsSelectCore IsSpannedExpr
    (λ l y is. subst (λ z. IsExpr (roll-Expr z)) is (good_expression _ (expr_step (λ v. v.0) (λ v. v.1) (λ v. v.0) (λ v. v.1) (λ v. v.0) (λ v. v.1) (λ v. v.0) (λ v. v.1) (λ v. v.0) (λ v. v.1) (λ v. v.0) (λ v. v.1) (λ v. v.0) (λ v. v.1) (λ v. v.0) (λ v. v.1) (λ v. v.0) (λ v. v.1) (λ v. v.0) (λ v. v.1) (λ v. v.0) (λ v. v.1) (λ v. v.0) (λ v. v.1) (λ v. v.0) (λ v. v.1) (λ v. v.0) (λ v. v.1) y)))
    (λ l y is. subst (λ z. IsJoinConstraint (roll-JoinConstraint z)) is (constraint_step (λ v. v.0) (λ v. v.1) (λ v. v.0) (λ v. v.1) (λ v. v.0) (λ v. v.1) (λ v. v.0) (λ v. v.1) (λ v. v.0) (λ v. v.1) (λ v. v.0) (λ v. v.1) (λ v. v.0) (λ v. v.1) (λ v. v.0) (λ v. v.1) (λ v. v.0) (λ v. v.1) (λ v. v.0) (λ v. v.1) (λ v. v.0) (λ v. v.1) (λ v. v.0) (λ v. v.1) (λ v. v.0) (λ v. v.1) (λ v. v.0) (λ v. v.1) y))
    (λ l y is. subst (λ z. IsQueryPart (roll-QueryPart z)) is (part_step (λ v. v.0) (λ v. v.1) (λ v. v.0) (λ v. v.1) (λ v. v.0) (λ v. v.1) (λ v. v.0) (λ v. v.1) (λ v. v.0) (λ v. v.1) (λ v. v.0) (λ v. v.1) (λ v. v.0) (λ v. v.1) (λ v. v.0) (λ v. v.1) (λ v. v.0) (λ v. v.1) (λ v. v.0) (λ v. v.1) (λ v. v.0) (λ v. v.1) (λ v. v.0) (λ v. v.1) (λ v. v.0) (λ v. v.1) (λ v. v.0) (λ v. v.1) y))
    (λ l y is. subst (λ z. IsResultColumn (roll-ResultColumn z)) is (result_step (λ v. v.0) (λ v. v.1) (λ v. v.0) (λ v. v.1) (λ v. v.0) (λ v. v.1) (λ v. v.0) (λ v. v.1) (λ v. v.0) (λ v. v.1) (λ v. v.0) (λ v. v.1) (λ v. v.0) (λ v. v.1) (λ v. v.0) (λ v. v.1) (λ v. v.0) (λ v. v.1) (λ v. v.0) (λ v. v.1) (λ v. v.0) (λ v. v.1) (λ v. v.0) (λ v. v.1) (λ v. v.0) (λ v. v.1) (λ v. v.0) (λ v. v.1) y))
    (λ l y is. subst (λ z. IsSource (roll-Source z)) is (source_step (λ v. v.0) (λ v. v.1) (λ v. v.0) (λ v. v.1) (λ v. v.0) (λ v. v.1) (λ v. v.0) (λ v. v.1) (λ v. v.0) (λ v. v.1) (λ v. v.0) (λ v. v.1) (λ v. v.0) (λ v. v.1) (λ v. v.0) (λ v. v.1) (λ v. v.0) (λ v. v.1) (λ v. v.0) (λ v. v.1) (λ v. v.0) (λ v. v.1) (λ v. v.0) (λ v. v.1) (λ v. v.0) (λ v. v.1) (λ v. v.0) (λ v. v.1) y))
    (λ l y is. subst (λ z. IsArm (roll-Arm z)) is (arm_step (λ v. v.0) (λ v. v.1) (λ v. v.0) (λ v. v.1) (λ v. v.0) (λ v. v.1) (λ v. v.0) (λ v. v.1) (λ v. v.0) (λ v. v.1) (λ v. v.0) (λ v. v.1) (λ v. v.0) (λ v. v.1) (λ v. v.0) (λ v. v.1) (λ v. v.0) (λ v. v.1) (λ v. v.0) (λ v. v.1) (λ v. v.0) (λ v. v.1) (λ v. v.0) (λ v. v.1) (λ v. v.0) (λ v. v.1) (λ v. v.0) (λ v. v.1) y))
    (λ l y is. subst (λ z. IsCommonTable (roll-CommonTable z)) is (table_step (λ v. v.0) (λ v. v.1) (λ v. v.0) (λ v. v.1) (λ v. v.0) (λ v. v.1) (λ v. v.0) (λ v. v.1) (λ v. v.0) (λ v. v.1) (λ v. v.0) (λ v. v.1) (λ v. v.0) (λ v. v.1) (λ v. v.0) (λ v. v.1) (λ v. v.0) (λ v. v.1) (λ v. v.0) (λ v. v.1) (λ v. v.0) (λ v. v.1) (λ v. v.0) (λ v. v.1) (λ v. v.0) (λ v. v.1) (λ v. v.0) (λ v. v.1) y))
    (λ l y is. subst (λ z. IsCompoundPart (roll-CompoundPart z)) is (compound_step (λ v. v.0) (λ v. v.1) (λ v. v.0) (λ v. v.1) (λ v. v.0) (λ v. v.1) (λ v. v.0) (λ v. v.1) (λ v. v.0) (λ v. v.1) (λ v. v.0) (λ v. v.1) (λ v. v.0) (λ v. v.1) (λ v. v.0) (λ v. v.1) (λ v. v.0) (λ v. v.1) (λ v. v.0) (λ v. v.1) (λ v. v.0) (λ v. v.1) (λ v. v.0) (λ v. v.1) (λ v. v.0) (λ v. v.1) (λ v. v.0) (λ v. v.1) y))
    (λ l y is. subst (λ z. IsFromItem (roll-FromItem z)) is (item_step (λ v. v.0) (λ v. v.1) (λ v. v.0) (λ v. v.1) (λ v. v.0) (λ v. v.1) (λ v. v.0) (λ v. v.1) (λ v. v.0) (λ v. v.1) (λ v. v.0) (λ v. v.1) (λ v. v.0) (λ v. v.1) (λ v. v.0) (λ v. v.1) (λ v. v.0) (λ v. v.1) (λ v. v.0) (λ v. v.1) (λ v. v.0) (λ v. v.1) (λ v. v.0) (λ v. v.1) (λ v. v.0) (λ v. v.1) (λ v. v.0) (λ v. v.1) y))
    (λ l y is. subst (λ z. IsOrderingTerm (roll-OrderingTerm z)) is (term_step (λ v. v.0) (λ v. v.1) (λ v. v.0) (λ v. v.1) (λ v. v.0) (λ v. v.1) (λ v. v.0) (λ v. v.1) (λ v. v.0) (λ v. v.1) (λ v. v.0) (λ v. v.1) (λ v. v.0) (λ v. v.1) (λ v. v.0) (λ v. v.1) (λ v. v.0) (λ v. v.1) (λ v. v.0) (λ v. v.1) (λ v. v.0) (λ v. v.1) (λ v. v.0) (λ v. v.1) (λ v. v.0) (λ v. v.1) (λ v. v.0) (λ v. v.1) y))
    (λ l y is. subst (λ z. IsQuery (roll-Query z)) is (query_step (λ v. v.0) (λ v. v.1) (λ v. v.0) (λ v. v.1) (λ v. v.0) (λ v. v.1) (λ v. v.0) (λ v. v.1) (λ v. v.0) (λ v. v.1) (λ v. v.0) (λ v. v.1) (λ v. v.0) (λ v. v.1) (λ v. v.0) (λ v. v.1) (λ v. v.0) (λ v. v.1) (λ v. v.0) (λ v. v.1) (λ v. v.0) (λ v. v.1) (λ v. v.0) (λ v. v.1) (λ v. v.0) (λ v. v.1) (λ v. v.0) (λ v. v.1) y))
    (λ l y is. subst (λ z. IsRowLimit (roll-RowLimit z)) is (limit_step (λ v. v.0) (λ v. v.1) (λ v. v.0) (λ v. v.1) (λ v. v.0) (λ v. v.1) (λ v. v.0) (λ v. v.1) (λ v. v.0) (λ v. v.1) (λ v. v.0) (λ v. v.1) (λ v. v.0) (λ v. v.1) (λ v. v.0) (λ v. v.1) (λ v. v.0) (λ v. v.1) (λ v. v.0) (λ v. v.1) (λ v. v.0) (λ v. v.1) (λ v. v.0) (λ v. v.1) (λ v. v.0) (λ v. v.1) (λ v. v.0) (λ v. v.1) y))
    (λ l y is. subst (λ z. IsSelectCore (roll-SelectCore z)) is (core_step (λ v. v.0) (λ v. v.1) (λ v. v.0) (λ v. v.1) (λ v. v.0) (λ v. v.1) (λ v. v.0) (λ v. v.1) (λ v. v.0) (λ v. v.1) (λ v. v.0) (λ v. v.1) (λ v. v.0) (λ v. v.1) (λ v. v.0) (λ v. v.1) (λ v. v.0) (λ v. v.1) (λ v. v.0) (λ v. v.1) (λ v. v.0) (λ v. v.1) (λ v. v.0) (λ v. v.1) (λ v. v.0) (λ v. v.1) (λ v. v.0) (λ v. v.1) y))
    (λ l y is. subst (λ z. IsSpannedExpr (roll-SpannedExpr z)) is (spanned_step (λ v. v.0) (λ v. v.1) (λ v. v.0) (λ v. v.1) (λ v. v.0) (λ v. v.1) (λ v. v.0) (λ v. v.1) (λ v. v.0) (λ v. v.1) (λ v. v.0) (λ v. v.1) (λ v. v.0) (λ v. v.1) (λ v. v.0) (λ v. v.1) (λ v. v.0) (λ v. v.1) (λ v. v.0) (λ v. v.1) (λ v. v.0) (λ v. v.1) (λ v. v.0) (λ v. v.1) (λ v. v.0) (λ v. v.1) (λ v. v.0) (λ v. v.1) y))
