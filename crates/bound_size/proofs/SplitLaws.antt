-- What a condition is split into is no larger than it is.
use Rattle.std.proofs.Common.{◌≡◌, ◌≤◌, ◌*◌, true, List, [], ◌∷◌, Some, None, Ok, subst, arith}
use Rattle.std.specs.List.{flat_map}
use Rattle.eng_value.specs.declared.operators.BinaryOperator.TheVariants as binary
use Rattle.sql_tree.specs.Sizes.{size_of}
use Rattle.sql_tree.specs.declared.expr.Arm.{Arm}
use Rattle.sql_tree.specs.declared.expr.BinaryOp.TheVariants as op
use Rattle.sql_tree.specs.declared.expr.Expr.TheOpen.{Expr-F}
use Rattle.sql_tree.specs.declared.expr.Expr.{Expr, fold-roll-Expr, ind-Expr, map-Expr, roll-Expr}
use Rattle.sql_tree.specs.declared.query.CommonTable.{CommonTable}
use Rattle.sql_tree.specs.declared.query.CompoundPart.{CompoundPart}
use Rattle.sql_tree.specs.declared.query.FromItem.{FromItem}
use Rattle.sql_tree.specs.declared.query.JoinConstraint.{JoinConstraint}
use Rattle.sql_tree.specs.declared.query.OrderingTerm.{OrderingTerm}
use Rattle.sql_tree.specs.declared.query.Query.{Query}
use Rattle.sql_tree.specs.declared.query.QueryPart.{QueryPart}
use Rattle.sql_tree.specs.declared.query.ResultColumn.{ResultColumn}
use Rattle.sql_tree.specs.declared.query.RowLimit.{RowLimit}
use Rattle.sql_tree.specs.declared.query.SelectCore.{SelectCore}
use Rattle.sql_tree.specs.declared.query.Source.{Source}
use Rattle.sql_tree.specs.declared.query.SpannedExpr.{SpannedExpr}
use Rattle.bound_tree.specs.Exprs as e
use Rattle.bound_tree.specs.Exprs.{BoundExpr}
use Rattle.sql_bound.specs.Carriers.{Expression}
use Rattle.sql_bound.specs.Expressions.{split_by}
use Rattle.sql_bound.specs.Scopes.{Scope}
use Rattle.sql_bound.specs.Trees.{of_expr}
use Rattle.sql_bound.specs.declared.scopes.Operand.{Operand}
use Rattle.sql_bound.specs.declared.scopes.Work.{Work}
use Rattle.bound_size.specs.Brought.{AllBringNodes, own_of}
use Rattle.bound_size.specs.Plain.{is_plain}
use Rattle.bound_tree.specs.Conditions.{conditions_of}
use Rattle.bound_size.specs.Sizes.{all_nodes, nodes_of}
use Rattle.bound_size.proofs.NodeLaws.{all_nodes-append, all_nodes-one, tests_nodes}
use Rattle.bound_size.proofs.SizeLaws.{tree_nodes}

abbrev pub SplitsInto : (BoundExpr → List BoundExpr) → Type 0
SplitsInto split = (t : BoundExpr) → all_nodes (split t) ≤ nodes_of t

abbrev Parts : Expression → Type 0
Parts x = SplitsInto x.conjuncts

split_nodes : (left right : BoundExpr → List BoundExpr) → SplitsInto left → SplitsInto right → SplitsInto (split_by left right)
split_nodes left right hl hr (e.Binary binary.And a b) = omega (arith, hl a, hr b, all_nodes-append (left a) (right b))
split_nodes left right hl hr t = omega arith

one_node : SplitsInto (λ t. t ∷ [])
one_node t = omega (arith, all_nodes-one t)

-- ---- every expression; nothing is said of others

abbrev IsSplit : Expr → Type 0
IsSplit x = Parts (of_expr x)

module _ {Y : Type 0} (of : Y → Expr) (parts : (y : Y) → IsSplit (of y)) where
  abbrev With : Type 0 → Type 0
  With T = T × Unit {0}

  abbrev tree : {T : Type 0} → With T → T
  tree q = q.0

  step : (y : Expr-F Y (With JoinConstraint) (With QueryPart) (With ResultColumn) (With Source) (With Arm) (With CommonTable) (With CompoundPart) (With FromItem) (With OrderingTerm) (With Query) (With RowLimit) (With SelectCore) (With SpannedExpr)) → IsSplit (roll-Expr (map-Expr Y (With JoinConstraint) (With QueryPart) (With ResultColumn) (With Source) (With Arm) (With CommonTable) (With CompoundPart) (With FromItem) (With OrderingTerm) (With Query) (With RowLimit) (With SelectCore) (With SpannedExpr) Expr JoinConstraint QueryPart ResultColumn Source Arm CommonTable CompoundPart FromItem OrderingTerm Query RowLimit SelectCore SpannedExpr of tree tree tree tree tree tree tree tree tree tree tree tree tree y))
  step (Expr-F.Binary op.And a b) = rw fold-roll-Expr (split_nodes (of_expr (of a)).conjuncts (of_expr (of b)).conjuncts (parts a) (parts b))
  step (Expr-F.Like a b None) = rw fold-roll-Expr one_node
  step (Expr-F.Like a b (Some c)) = rw fold-roll-Expr one_node
  step (Expr-F.Call t how args None) = rw fold-roll-Expr one_node
  step (Expr-F.Call t how args (Some filter)) = rw fold-roll-Expr one_node
  step (Expr-F.Case None arms None) = rw fold-roll-Expr one_node
  step (Expr-F.Case None arms (Some last)) = rw fold-roll-Expr one_node
  step (Expr-F.Case (Some a) arms None) = rw fold-roll-Expr one_node
  step (Expr-F.Case (Some a) arms (Some last)) = rw fold-roll-Expr one_node
  step y = rw fold-roll-Expr one_node

splits : (x : Expr) → IsSplit x
splits = ind-Expr IsSplit (λ q. Unit {0}) (λ q. Unit {0}) (λ q. Unit {0}) (λ q. Unit {0}) (λ q. Unit {0}) (λ q. Unit {0}) (λ q. Unit {0}) (λ q. Unit {0}) (λ q. Unit {0}) (λ q. Unit {0}) (λ q. Unit {0}) (λ q. Unit {0}) (λ q. Unit {0})
    (λ l y is. subst (λ z. IsSplit (roll-Expr z)) is (step (λ x. x.0) (λ x. x.1) y)) (λ l y is. tt) (λ l y is. tt) (λ l y is. tt) (λ l y is. tt) (λ l y is. tt)
    (λ l y is. tt) (λ l y is. tt) (λ l y is. tt) (λ l y is. tt) (λ l y is. tt) (λ l y is. tt) (λ l y is. tt) (λ l y is. tt)

pub parts_nodes : (x : Expr) (t : BoundExpr) → all_nodes ((of_expr x).conjuncts t) ≤ nodes_of t
parts_nodes x = splits x

-- ---- what a condition is split into, and what of that is tested

pub conjunct_nodes : (x : Expr) (s : Scope) (w : Work) (r : Operand × Work) → is_plain x ≡ true → s.aliases ≡ [] → AllBringNodes (own_of s.outer.levels) → (of_expr x).bound s w ≡ Ok r
    → all_nodes ((of_expr x).conjuncts r.0.tree) ≤ 2 * size_of x
conjunct_nodes x s w r plain bare own h = omega (arith, parts_nodes x r.0.tree, tree_nodes x s w r plain bare own h)

pub test_nodes : (x : Expr) (s : Scope) (w : Work) (r : Operand × Work) → is_plain x ≡ true → s.aliases ≡ [] → AllBringNodes (own_of s.outer.levels) → (of_expr x).bound s w ≡ Ok r
    → all_nodes (flat_map conditions_of ((of_expr x).conjuncts r.0.tree)) ≤ 4 * size_of x
test_nodes x s w r plain bare own h = omega (arith, tests_nodes ((of_expr x).conjuncts r.0.tree), conjunct_nodes x s w r plain bare own h)
