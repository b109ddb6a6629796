-- What a condition is split into is within what it is within.
use Rattle.std.proofs.Common.{List, [], ◌∷◌, Some, None, subst}
use Rattle.eng_value.specs.declared.operators.BinaryOperator.TheVariants as binary
use Rattle.sql_tree.specs.declared.expr.Arm.{Arm}
use Rattle.sql_tree.specs.declared.expr.BinaryOp.TheVariants as op
use Rattle.sql_tree.specs.declared.expr.Expr.TheOpen.{Expr-F}
use Rattle.sql_tree.specs.declared.expr.Expr.{Expr, fold-roll-Expr, ind-Expr, map-Expr, roll-Expr}
use Rattle.sql_tree.specs.declared.query.CommonTable.{CommonTable}
use Rattle.sql_tree.specs.declared.query.CompoundPart.{CompoundPart}
use Rattle.sql_tree.specs.declared.query.FromItem.{FromItem}
use Rattle.sql_tree.specs.declared.query.JoinConstraint.{JoinConstraint}
use Rattle.sql_tree.specs.declared.query.OrderingTerm.{OrderingTerm}
use Rattle.sql_tree.specs.declared.query.Query.{Query}
use Rattle.sql_tree.specs.declared.query.QueryPart.{QueryPart}
use Rattle.sql_tree.specs.declared.query.ResultColumn.{ResultColumn}
use Rattle.sql_tree.specs.declared.query.RowLimit.{RowLimit}
use Rattle.sql_tree.specs.declared.query.SelectCore.{SelectCore}
use Rattle.sql_tree.specs.declared.query.Source.{Source}
use Rattle.sql_tree.specs.declared.query.SpannedExpr.{SpannedExpr}
use Rattle.bound_tree.specs.Exprs as e
use Rattle.bound_tree.specs.Exprs.{BoundExpr}
use Rattle.sql_bound.specs.Expressions.{split_by}
use Rattle.sql_bound.specs.Trees.{of_expr}
use Rattle.bound_laws.specs.Reach.{IsWithin}
use Rattle.bound_laws.proofs.Goods.{Splits}
use Rattle.bound_laws.proofs.Lists.{all_append}

both_split : (left right : BoundExpr → List BoundExpr) → Splits left → Splits right → Splits (split_by left right)
both_split left right hl hr r from (e.Binary binary.And a b) h = all_append (IsWithin r from) (left a) (right b) (hl r from a h.0) (hr r from b h.1)
both_split left right hl hr r from x h = (h, tt)

one : Splits (λ t. t ∷ [])
one r from x h = (h, tt)

abbrev IsSplit : Expr → Type 0
IsSplit x = Splits (of_expr x).conjuncts

module _ {Y : Type 0} (of : Y → Expr) (parts : (y : Y) → IsSplit (of y)) where
  abbrev With : Type 0 → Type 0
  With T = T × Unit {0}

  abbrev tree : {T : Type 0} → With T → T
  tree q = q.0

  step : (y : Expr-F Y (With JoinConstraint) (With QueryPart) (With ResultColumn) (With Source) (With Arm) (With CommonTable) (With CompoundPart) (With FromItem) (With OrderingTerm) (With Query) (With RowLimit) (With SelectCore) (With SpannedExpr)) → IsSplit (roll-Expr (map-Expr Y (With JoinConstraint) (With QueryPart) (With ResultColumn) (With Source) (With Arm) (With CommonTable) (With CompoundPart) (With FromItem) (With OrderingTerm) (With Query) (With RowLimit) (With SelectCore) (With SpannedExpr) Expr JoinConstraint QueryPart ResultColumn Source Arm CommonTable CompoundPart FromItem OrderingTerm Query RowLimit SelectCore SpannedExpr of tree tree tree tree tree tree tree tree tree tree tree tree tree y))
  step (Expr-F.Binary op.And a b) = rw fold-roll-Expr (both_split (of_expr (of a)).conjuncts (of_expr (of b)).conjuncts (parts a) (parts b))
  step (Expr-F.Like a b None) = rw fold-roll-Expr one
  step (Expr-F.Like a b (Some c)) = rw fold-roll-Expr one
  step (Expr-F.Call t how args None) = rw fold-roll-Expr one
  step (Expr-F.Call t how args (Some filter)) = rw fold-roll-Expr one
  step (Expr-F.Case None arms None) = rw fold-roll-Expr one
  step (Expr-F.Case None arms (Some last)) = rw fold-roll-Expr one
  step (Expr-F.Case (Some a) arms None) = rw fold-roll-Expr one
  step (Expr-F.Case (Some a) arms (Some last)) = rw fold-roll-Expr one
  step y = rw fold-roll-Expr one

pub splits : (x : Expr) → IsSplit x
splits = ind-Expr IsSplit (λ q. Unit {0}) (λ q. Unit {0}) (λ q. Unit {0}) (λ q. Unit {0}) (λ q. Unit {0}) (λ q. Unit {0}) (λ q. Unit {0}) (λ q. Unit {0}) (λ q. Unit {0}) (λ q. Unit {0}) (λ q. Unit {0}) (λ q. Unit {0}) (λ q. Unit {0})
    (λ l y is. subst (λ z. IsSplit (roll-Expr z)) is (step (λ x. x.0) (λ x. x.1) y)) (λ l y is. tt) (λ l y is. tt) (λ l y is. tt) (λ l y is. tt) (λ l y is. tt)
    (λ l y is. tt) (λ l y is. tt) (λ l y is. tt) (λ l y is. tt) (λ l y is. tt) (λ l y is. tt) (λ l y is. tt) (λ l y is. tt)
