-- What a tree comes to, how large it is and whether it is plain, by its layer.
use Rattle.std.proofs.Common.{◌≡◌, ℕ, Bool, refl}
use Rattle.sql_tree.specs.Folds.{ExprStep, Q}
use Rattle.sql_tree.specs.Layers.{ExprLayer}
use Rattle.sql_tree.specs.Sizes.{size_of, size_of_arm, size_step}
use Rattle.sql_tree.specs.declared.expr.Arm.{Arm}
use Rattle.sql_tree.specs.declared.expr.Expr.{Expr, fold-roll-Expr, map-Expr, roll-Expr}
use Rattle.sql_tree.specs.declared.query.CommonTable.{CommonTable}
use Rattle.sql_tree.specs.declared.query.CompoundPart.{CompoundPart}
use Rattle.sql_tree.specs.declared.query.FromItem.{FromItem}
use Rattle.sql_tree.specs.declared.query.JoinConstraint.{JoinConstraint}
use Rattle.sql_tree.specs.declared.query.OrderingTerm.{OrderingTerm}
use Rattle.sql_tree.specs.declared.query.Query.{Query}
use Rattle.sql_tree.specs.declared.query.QueryPart.{QueryPart}
use Rattle.sql_tree.specs.declared.query.ResultColumn.{ResultColumn}
use Rattle.sql_tree.specs.declared.query.RowLimit.{RowLimit}
use Rattle.sql_tree.specs.declared.query.SelectCore.{SelectCore}
use Rattle.sql_tree.specs.declared.query.Source.{Source}
use Rattle.sql_tree.specs.declared.query.SpannedExpr.{SpannedExpr}
use Rattle.sql_bound.specs.Carriers.{ArmParts, CompoundParts, ConstraintParts, CoreParts, ExprLayer as PartsLayer, Expression, ItemParts, LimitParts, PartParts, QueryParts, ResultParts, SourceParts, SpannedExpression, TableParts, TermParts}
use Rattle.sql_bound.specs.Expressions.{expr_step}
use Rattle.sql_bound.specs.Trees.{of_arm, of_compound, of_constraint, of_core, of_expr, of_item, of_limit, of_part, of_query, of_result, of_source, of_spanned, of_table, of_term}
use Rattle.bound_size.specs.Plain.{is_plain, is_plain_arm, plain_step}

abbrev pub bound_layer : ExprLayer → PartsLayer
bound_layer l =
    map-Expr Expr JoinConstraint QueryPart ResultColumn Source Arm CommonTable CompoundPart FromItem OrderingTerm Query RowLimit SelectCore SpannedExpr
    Expression ConstraintParts PartParts ResultParts SourceParts ArmParts TableParts CompoundParts ItemParts TermParts QueryParts LimitParts CoreParts SpannedExpression
    of_expr of_constraint of_part of_result of_source of_arm of_table of_compound of_item of_term of_query of_limit of_core of_spanned l

-- nothing is told of others than expressions and arms
abbrev told : {A B : Type 0} → (Expr → A) → (Arm → B) → ExprLayer → ExprStep A B
told {A} {B} f g l =
    map-Expr Expr JoinConstraint QueryPart ResultColumn Source Arm CommonTable CompoundPart FromItem OrderingTerm Query RowLimit SelectCore SpannedExpr
    A Q Q Q Q B Q Q Q Q Q Q Q Q
    f (λ q. tt) (λ q. tt) (λ q. tt) (λ q. tt) g (λ q. tt) (λ q. tt) (λ q. tt) (λ q. tt) (λ q. tt) (λ q. tt) (λ q. tt) (λ q. tt) l

abbrev pub size_layer : ExprLayer → ExprStep ℕ ℕ
size_layer l = told size_of size_of_arm l

abbrev pub plain_layer : ExprLayer → ExprStep Bool Bool
plain_layer l = told is_plain is_plain_arm l

pub of_expr-roll : (l : ExprLayer) → of_expr (roll-Expr l) ≡ expr_step (bound_layer l)
of_expr-roll l = rw fold-roll-Expr refl

pub size_of-roll : (l : ExprLayer) → size_of (roll-Expr l) ≡ size_step (size_layer l)
size_of-roll l = rw fold-roll-Expr refl

pub is_plain-roll : (l : ExprLayer) → is_plain (roll-Expr l) ≡ plain_step (plain_layer l)
is_plain-roll l = rw fold-roll-Expr refl
