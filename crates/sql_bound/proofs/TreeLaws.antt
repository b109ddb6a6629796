-- A tree comes to what its parts come to, by one step: so what worked examples are written with stands for trees.
use Rattle.std.specs.Prelude.{◌≡◌, List, map}
use Rattle.std.proofs.Common.{rules, option_map}
use Rattle.sql_tree.specs.declared.expr.Arm.{Arm}
use Rattle.sql_tree.specs.declared.expr.BinaryOp.{BinaryOp}
use Rattle.sql_tree.specs.declared.expr.Expr.TheOpen.{Expr-F}
use Rattle.sql_tree.specs.declared.expr.Expr.TheVariants as e
use Rattle.sql_tree.specs.declared.expr.Expr.{Expr, the_lemmas}
use Rattle.sql_tree.specs.declared.expr.UnaryOp.{UnaryOp}
use Rattle.sql_tree.specs.declared.query.CommonTable.{CommonTable}
use Rattle.sql_tree.specs.declared.query.CompoundPart.{CompoundPart}
use Rattle.sql_tree.specs.declared.query.FromItem.{FromItem}
use Rattle.sql_tree.specs.declared.query.JoinConstraint.{JoinConstraint}
use Rattle.sql_tree.specs.declared.query.OrderingTerm.{OrderingTerm}
use Rattle.sql_tree.specs.declared.query.Query.{Query}
use Rattle.sql_tree.specs.declared.query.Query.{out-Query}
use Rattle.sql_tree.specs.declared.query.QueryPart.{QueryPart}
use Rattle.sql_tree.specs.declared.query.ResultColumn.{ResultColumn}
use Rattle.sql_tree.specs.declared.query.RowLimit.{RowLimit}
use Rattle.sql_tree.specs.declared.query.SelectCore.{SelectCore, out-SelectCore}
use Rattle.sql_tree.specs.declared.query.Source.{Source}
use Rattle.sql_tree.specs.declared.query.SpannedExpr.{SpannedExpr}
use Rattle.sql_tree.specs.declared.token.Token.{Token}
use Rattle.sql_bound.specs.Carriers.{ArmParts, CompoundParts, ConstraintParts, CoreParts, Expression, ItemParts, LimitParts, PartParts, QueryParts, ResultParts, SourceParts, SpannedExpression, TableParts, TermParts}
use Rattle.sql_bound.specs.Expressions.{arm_step}
use Rattle.sql_bound.specs.Expressions.{expr_step}
use Rattle.sql_bound.specs.Trees.{of_constraint, of_part, of_result, of_source, of_arm, of_table, of_compound, of_item, of_term, of_limit, of_core, of_spanned, compound_step, constraint_step, core_step, item_step, limit_step, part_step, query_step, result_step, source_step, spanned_step, table_step, term_step}
use Rattle.sql_bound.specs.Trees.{of_constraint, of_part, of_result, of_source, of_arm, of_table, of_compound, of_item, of_term, of_limit, of_core, of_spanned, of_expr, of_query}

-- ---- expressions

pub of_expr-Literal : (t : Token) → of_expr (e.Literal t) ≡ expr_step (Expr-F.Literal t)
of_expr-Literal t = search (rules, the_lemmas)

pub of_expr-Column : (t : Token) → of_expr (e.Column t) ≡ expr_step (Expr-F.Column t)
of_expr-Column t = search (rules, the_lemmas)

pub of_expr-TableColumn : (t c : Token) → of_expr (e.TableColumn t c) ≡ expr_step (Expr-F.TableColumn t c)
of_expr-TableColumn t c = search (rules, the_lemmas)

pub of_expr-Unary : (o : UnaryOp) (a : Expr) → of_expr (e.Unary o a) ≡ expr_step (Expr-F.Unary o (of_expr a))
of_expr-Unary o a = search (rules, the_lemmas)

pub of_expr-Binary : (o : BinaryOp) (a b : Expr) → of_expr (e.Binary o a b) ≡ expr_step (Expr-F.Binary o (of_expr a) (of_expr b))
of_expr-Binary o a b = search (rules, the_lemmas)

pub of_expr-In : (a : Expr) (others : List Expr) → of_expr (e.In a others) ≡ expr_step (Expr-F.In (of_expr a) (map of_expr others))
of_expr-In a others = search (rules, the_lemmas)

pub of_expr-Subquery : (q : Query) → of_expr (e.Subquery q) ≡ expr_step (Expr-F.Subquery (of_query q))
of_expr-Subquery q = search (rules, the_lemmas)

pub of_expr-Exists : (q : Query) → of_expr (e.Exists q) ≡ expr_step (Expr-F.Exists (of_query q))
of_expr-Exists q = search (rules, the_lemmas)

pub of_expr-InQuery : (a : Expr) (q : Query) → of_expr (e.InQuery a q) ≡ expr_step (Expr-F.InQuery (of_expr a) (of_query q))
of_expr-InQuery a q = search (rules, the_lemmas)

-- ---- queries, layer by layer

pub of_query-out : (q : Query) → of_query q ≡ query_step (record { with = map of_table (out-Query q).with; first = of_part (out-Query q).first; others = map of_compound (out-Query q).others; order_by = map of_term (out-Query q).order_by; limit = option_map of_limit (out-Query q).limit })
of_query-out q = search (rules, the_lemmas)

pub of_core-out : (c : SelectCore) → of_core c ≡ core_step (record { distinct = (out-SelectCore c).distinct; results = map of_result (out-SelectCore c).results; from = map of_item (out-SelectCore c).from; filter = option_map of_expr (out-SelectCore c).filter; group_by = map of_spanned (out-SelectCore c).group_by; having = option_map of_expr (out-SelectCore c).having })
of_core-out c = search (rules, the_lemmas)
