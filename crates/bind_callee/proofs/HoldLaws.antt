-- Whether an aggregate stands in an expression, said of the trees that they are; it goes by the text and what hosts tell alone.
use Rattle.std.proofs.Common.{◌≡◌, ℕ, false, ◌||◌, List, [], ◌∷◌, map, length, Option, Some, None, refl, sym, ap, subst, ◌∙◌}
use Rattle.std.proofs.lemmas.List.{length-map}
use Rattle.std.specs.List.{list_any}
use Rattle.std.specs.Option.{option_map}
use Rattle.sql_tree.specs.declared.expr.Arguments.{Arguments}
use Rattle.sql_tree.specs.declared.expr.Arm.{Arm, fold-roll-Arm, map-Arm, out-Arm, roll-Arm, roll-out-Arm}
use Rattle.sql_tree.specs.declared.expr.BinaryOp.{BinaryOp}
use Rattle.sql_tree.specs.declared.expr.Expr.{Expr, fold-roll-Expr, ind-Expr, map-Expr, roll-Expr}
use Rattle.sql_tree.specs.declared.expr.Expr.TheOpen.{Arm-F, Expr-F}
use Rattle.sql_tree.specs.declared.expr.Expr.TheVariants.{rolls-Literal, rolls-Parameter, rolls-Column, rolls-TableColumn, rolls-Unary, rolls-Binary, rolls-Between, rolls-Like, rolls-In, rolls-Collate, rolls-Cast, rolls-Call, rolls-Case, rolls-InQuery, rolls-Subquery, rolls-Exists, rolls-RaiseIgnore, rolls-RaiseAbort}
use Rattle.sql_tree.specs.declared.expr.Expr.TheVariants as x
use Rattle.sql_tree.specs.declared.expr.TypeName.{TypeName}
use Rattle.sql_tree.specs.declared.expr.UnaryOp.{UnaryOp}
use Rattle.sql_tree.specs.declared.query.CommonTable.{CommonTable}
use Rattle.sql_tree.specs.declared.query.CompoundPart.{CompoundPart}
use Rattle.sql_tree.specs.declared.query.FromItem.{FromItem}
use Rattle.sql_tree.specs.declared.query.JoinConstraint.{JoinConstraint}
use Rattle.sql_tree.specs.declared.query.OrderingTerm.{OrderingTerm}
use Rattle.sql_tree.specs.declared.query.Query.{Query}
use Rattle.sql_tree.specs.declared.query.QueryPart.{QueryPart}
use Rattle.sql_tree.specs.declared.query.ResultColumn.{ResultColumn}
use Rattle.sql_tree.specs.declared.query.RowLimit.{RowLimit}
use Rattle.sql_tree.specs.declared.query.SelectCore.{SelectCore}
use Rattle.sql_tree.specs.declared.query.Source.{Source}
use Rattle.sql_tree.specs.declared.query.SpannedExpr.{SpannedExpr}
use Rattle.sql_tree.specs.declared.token.Token.{Token}
use Rattle.sql_bound.specs.Expressions.{any_holds, arm_holds, calls_aggregate, option_holds}
use Rattle.sql_bound.specs.Scopes.{Facts, Outer}
use Rattle.sql_bound.specs.Trees.{of_expr}
use Rattle.bind_callee.specs.Told.{of_arm, told}

-- ---- clause by clause

pub holds-Literal : (t : Token) (o : Outer) → (of_expr (x.Literal t)).aggregates o ≡ false
holds-Literal t o = rw (← rolls-Literal t, fold-roll-Expr) refl

pub holds-Parameter : (t : Token) (o : Outer) → (of_expr (x.Parameter t)).aggregates o ≡ false
holds-Parameter t o = rw (← rolls-Parameter t, fold-roll-Expr) refl

pub holds-Column : (t : Token) (o : Outer) → (of_expr (x.Column t)).aggregates o ≡ false
holds-Column t o = rw (← rolls-Column t, fold-roll-Expr) refl

pub holds-TableColumn : (t c : Token) (o : Outer) → (of_expr (x.TableColumn t c)).aggregates o ≡ false
holds-TableColumn t c o = rw (← rolls-TableColumn t c, fold-roll-Expr) refl

pub holds-Unary : (u : UnaryOp) (a : Expr) (o : Outer) → (of_expr (x.Unary u a)).aggregates o ≡ (of_expr a).aggregates o
holds-Unary u a o = rw (← rolls-Unary u a, fold-roll-Expr) refl

pub holds-Binary : (u : BinaryOp) (a b : Expr) (o : Outer) → (of_expr (x.Binary u a b)).aggregates o ≡ ((of_expr a).aggregates o || (of_expr b).aggregates o)
holds-Binary u a b o = rw (← rolls-Binary u a b, fold-roll-Expr) refl

pub holds-Between : (a b c : Expr) (o : Outer) → (of_expr (x.Between a b c)).aggregates o ≡ ((of_expr a).aggregates o || (of_expr b).aggregates o || (of_expr c).aggregates o)
holds-Between a b c o = rw (← rolls-Between a b c, fold-roll-Expr) refl

pub holds-Like : (a b : Expr) (c : Option Expr) (o : Outer) → (of_expr (x.Like a b c)).aggregates o ≡ ((of_expr a).aggregates o || (of_expr b).aggregates o || option_holds o (option_map of_expr c))
holds-Like a b None o = rw (← rolls-Like a b None, fold-roll-Expr) refl
holds-Like a b (Some c) o = rw (← rolls-Like a b (Some c), fold-roll-Expr) refl

pub holds-In : (a : Expr) (others : List Expr) (o : Outer) → (of_expr (x.In a others)).aggregates o ≡ ((of_expr a).aggregates o || any_holds o (map of_expr others))
holds-In a others o = rw (← rolls-In a others, fold-roll-Expr) refl

pub holds-InQuery : (a : Expr) (q : Query) (o : Outer) → (of_expr (x.InQuery a q)).aggregates o ≡ (of_expr a).aggregates o
holds-InQuery a q o = rw (← rolls-InQuery a q, fold-roll-Expr) refl

pub holds-Subquery : (q : Query) (o : Outer) → (of_expr (x.Subquery q)).aggregates o ≡ false
holds-Subquery q o = rw (← rolls-Subquery q, fold-roll-Expr) refl

pub holds-Exists : (q : Query) (o : Outer) → (of_expr (x.Exists q)).aggregates o ≡ false
holds-Exists q o = rw (← rolls-Exists q, fold-roll-Expr) refl

pub holds-Collate : (a : Expr) (t : Token) (o : Outer) → (of_expr (x.Collate a t)).aggregates o ≡ (of_expr a).aggregates o
holds-Collate a t o = rw (← rolls-Collate a t, fold-roll-Expr) refl

pub holds-Cast : (a : Expr) (t : TypeName) (o : Outer) → (of_expr (x.Cast a t)).aggregates o ≡ (of_expr a).aggregates o
holds-Cast a t o = rw (← rolls-Cast a t, fold-roll-Expr) refl

pub holds-Call : (t : Token) (how : Arguments) (args : List Expr) (filter : Option Expr) (o : Outer)
    → (of_expr (x.Call t how args filter)).aggregates o ≡ (calls_aggregate o t how (length args) || any_holds o (map of_expr args) || option_holds o (option_map of_expr filter))
holds-Call t how args None o = rw (← rolls-Call t how args None, fold-roll-Expr, ← length-map args of_expr) refl
holds-Call t how args (Some f) o = rw (← rolls-Call t how args (Some f), fold-roll-Expr, ← length-map args of_expr) refl

pub holds-Case : (a : Option Expr) (arms : List Arm) (otherwise : Option Expr) (o : Outer)
    → (of_expr (x.Case a arms otherwise)).aggregates o ≡ (option_holds o (option_map of_expr a) || list_any (arm_holds o) (map of_arm arms) || option_holds o (option_map of_expr otherwise))
holds-Case None arms None o = rw (← rolls-Case None arms None, fold-roll-Expr) refl
holds-Case None arms (Some c) o = rw (← rolls-Case None arms (Some c), fold-roll-Expr) refl
holds-Case (Some a) arms None o = rw (← rolls-Case (Some a) arms None, fold-roll-Expr) refl
holds-Case (Some a) arms (Some c) o = rw (← rolls-Case (Some a) arms (Some c), fold-roll-Expr) refl

pub holds-RaiseIgnore : (o : Outer) → (of_expr x.RaiseIgnore).aggregates o ≡ false
holds-RaiseIgnore o = rw (← rolls-RaiseIgnore, fold-roll-Expr) refl

pub holds-RaiseAbort : (t : Token) (o : Outer) → (of_expr (x.RaiseAbort t)).aggregates o ≡ false
holds-RaiseAbort t o = rw (← rolls-RaiseAbort t, fold-roll-Expr) refl

pub arm_holds-is : (condition value : Expr) (o : Outer) → arm_holds o (of_arm (roll-Arm (record { condition = condition; value = value }))) ≡ ((of_expr condition).aggregates o || (of_expr value).aggregates o)
arm_holds-is condition value o = rw fold-roll-Arm refl

pub ruleset holds_laws = (holds-Literal, holds-Parameter, holds-Column, holds-TableColumn, holds-Unary, holds-Binary, holds-Between, holds-Like, holds-In, holds-InQuery, holds-Subquery, holds-Exists, holds-Collate, holds-Cast, holds-Call, holds-Case, holds-RaiseIgnore, holds-RaiseAbort)

-- ---- by the text and what hosts tell alone

module _ (o p : Outer) (text : o.text ≡ p.text) (facts : o.around.facts ≡ p.around.facts) where
  abbrev pub Same : Expr → Type 0
  Same e = (of_expr e).aggregates o ≡ (of_expr e).aggregates p

  abbrev pub SameArm : Arm → Type 0
  SameArm arm = arm_holds o (of_arm arm) ≡ arm_holds p (of_arm arm)

  called_same : (t : Token) (how : Arguments) (given : ℕ) → calls_aggregate o t how given ≡ calls_aggregate p t how given
  called_same t how given = rw (text, facts) refl

  unary_case : (u : UnaryOp) (a : Expr) → Same a → Same (x.Unary u a)
  unary_case u a ha = rw (holds-Unary u a o, holds-Unary u a p) ha

  binary_case : (u : BinaryOp) (a b : Expr) → Same a → Same b → Same (x.Binary u a b)
  binary_case u a b ha hb = rw (holds-Binary u a b o, holds-Binary u a b p, ha, hb) refl

  between_case : (a b c : Expr) → Same a → Same b → Same c → Same (x.Between a b c)
  between_case a b c ha hb hc = rw (holds-Between a b c o, holds-Between a b c p, ha, hb, hc) refl

  in_query_case : (a : Expr) (q : Query) → Same a → Same (x.InQuery a q)
  in_query_case a q ha = rw (holds-InQuery a q o, holds-InQuery a q p) ha

  collate_case : (a : Expr) (t : Token) → Same a → Same (x.Collate a t)
  collate_case a t ha = rw (holds-Collate a t o, holds-Collate a t p) ha

  cast_case : (a : Expr) (t : TypeName) → Same a → Same (x.Cast a t)
  cast_case a t ha = rw (holds-Cast a t o, holds-Cast a t p) ha

  arm_case : (condition value : Expr) → Same condition → Same value → SameArm (roll-Arm (record { condition = condition; value = value }))
  arm_case condition value hc hv = rw (arm_holds-is condition value o, arm_holds-is condition value p, hc, hv) refl

  module _ {Y Z : Type 0} (of : Y → Expr) (same : (y : Y) → Same (of y)) (arm_of : Z → Arm) (arm_same : (z : Z) → SameArm (arm_of z)) where
    any_same : (ys : List Y) → any_holds o (map of_expr (map of ys)) ≡ any_holds p (map of_expr (map of ys))
    any_same [] = refl
    any_same (y ∷ ys) = rw (same y, any_same ys) refl

    option_same : (z : Option Y) → option_holds o (option_map of_expr (option_map of z)) ≡ option_holds p (option_map of_expr (option_map of z))
    option_same None = refl
    option_same (Some y) = same y

    arms_same : (zs : List Z) → list_any (arm_holds o) (map of_arm (map arm_of zs)) ≡ list_any (arm_holds p) (map of_arm (map arm_of zs))
    arms_same [] = refl
    arms_same (z ∷ zs) = rw (arm_same z, arms_same zs) refl

    like_case : (a b : Y) (c : Option Y) → Same (x.Like (of a) (of b) (option_map of c))
    like_case a b c = rw (holds-Like (of a) (of b) (option_map of c) o, holds-Like (of a) (of b) (option_map of c) p, same a, same b, option_same c) refl

    in_case : (a : Y) (others : List Y) → Same (x.In (of a) (map of others))
    in_case a others = rw (holds-In (of a) (map of others) o, holds-In (of a) (map of others) p, same a, any_same others) refl

    call_case : (t : Token) (how : Arguments) (args : List Y) (filter : Option Y) → Same (x.Call t how (map of args) (option_map of filter))
    call_case t how args filter =
        rw (holds-Call t how (map of args) (option_map of filter) o, holds-Call t how (map of args) (option_map of filter) p, called_same t how (length (map of args)), any_same args, option_same filter) refl

    case_case : (a : Option Y) (arms : List Z) (otherwise : Option Y) → Same (x.Case (option_map of a) (map arm_of arms) (option_map of otherwise))
    case_case a arms otherwise =
        rw (holds-Case (option_map of a) (map arm_of arms) (option_map of otherwise) o, holds-Case (option_map of a) (map arm_of arms) (option_map of otherwise) p, option_same a, arms_same arms, option_same otherwise) refl

    -- nothing is said of queries
    abbrev With : Type 0 → Type 0
    With T = T × Unit {0}

    abbrev tree : {T : Type 0} → With T → T
    tree q = q.0

    step : (y : Expr-F Y (With JoinConstraint) (With QueryPart) (With ResultColumn) (With Source) Z (With CommonTable) (With CompoundPart) (With FromItem) (With OrderingTerm) (With Query) (With RowLimit) (With SelectCore) (With SpannedExpr)) → Same (roll-Expr (map-Expr Y (With JoinConstraint) (With QueryPart) (With ResultColumn) (With Source) Z (With CommonTable) (With CompoundPart) (With FromItem) (With OrderingTerm) (With Query) (With RowLimit) (With SelectCore) (With SpannedExpr) Expr JoinConstraint QueryPart ResultColumn Source Arm CommonTable CompoundPart FromItem OrderingTerm Query RowLimit SelectCore SpannedExpr of tree tree tree tree arm_of tree tree tree tree tree tree tree tree y))
    step (Expr-F.Literal t) = rw (rolls-Literal t, holds-Literal t o, holds-Literal t p) refl
    step (Expr-F.Parameter t) = rw (rolls-Parameter t, holds-Parameter t o, holds-Parameter t p) refl
    step (Expr-F.Column t) = rw (rolls-Column t, holds-Column t o, holds-Column t p) refl
    step (Expr-F.TableColumn t c) = rw (rolls-TableColumn t c, holds-TableColumn t c o, holds-TableColumn t c p) refl
    step (Expr-F.Unary u a) = rw (rolls-Unary u (of a)) (unary_case u (of a) (same a))
    step (Expr-F.Binary u a b) = rw (rolls-Binary u (of a) (of b)) (binary_case u (of a) (of b) (same a) (same b))
    step (Expr-F.Between a b c) = rw (rolls-Between (of a) (of b) (of c)) (between_case (of a) (of b) (of c) (same a) (same b) (same c))
    step (Expr-F.Like a b None) = rw (rolls-Like (of a) (of b) None) (like_case a b None)
    step (Expr-F.Like a b (Some c)) = rw (rolls-Like (of a) (of b) (Some (of c))) (like_case a b (Some c))
    step (Expr-F.In a others) = rw (rolls-In (of a) (map of others)) (in_case a others)
    step (Expr-F.Collate a t) = rw (rolls-Collate (of a) t) (collate_case (of a) t (same a))
    step (Expr-F.Cast a t) = rw (rolls-Cast (of a) t) (cast_case (of a) t (same a))
    step (Expr-F.Call t how args None) = rw (rolls-Call t how (map of args) None) (call_case t how args None)
    step (Expr-F.Call t how args (Some filter)) = rw (rolls-Call t how (map of args) (Some (of filter))) (call_case t how args (Some filter))
    step (Expr-F.Case None arms None) = rw (rolls-Case None (map arm_of arms) None) (case_case None arms None)
    step (Expr-F.Case None arms (Some last)) = rw (rolls-Case None (map arm_of arms) (Some (of last))) (case_case None arms (Some last))
    step (Expr-F.Case (Some a) arms None) = rw (rolls-Case (Some (of a)) (map arm_of arms) None) (case_case (Some a) arms None)
    step (Expr-F.Case (Some a) arms (Some last)) = rw (rolls-Case (Some (of a)) (map arm_of arms) (Some (of last))) (case_case (Some a) arms (Some last))
    step (Expr-F.InQuery a q) = rw (rolls-InQuery (of a) (tree q)) (in_query_case (of a) (tree q) (same a))
    step (Expr-F.Subquery q) = rw (rolls-Subquery (tree q), holds-Subquery (tree q) o, holds-Subquery (tree q) p) refl
    step (Expr-F.Exists q) = rw (rolls-Exists (tree q), holds-Exists (tree q) o, holds-Exists (tree q) p) refl
    step Expr-F.RaiseIgnore = rw (rolls-RaiseIgnore, holds-RaiseIgnore o, holds-RaiseIgnore p) refl
    step (Expr-F.RaiseAbort t) = rw (rolls-RaiseAbort t, holds-RaiseAbort t o, holds-RaiseAbort t p) refl

    arm_step : (y : Arm-F Y (With JoinConstraint) (With QueryPart) (With ResultColumn) (With Source) Z (With CommonTable) (With CompoundPart) (With FromItem) (With OrderingTerm) (With Query) (With RowLimit) (With SelectCore) (With SpannedExpr)) → SameArm (roll-Arm (map-Arm Y (With JoinConstraint) (With QueryPart) (With ResultColumn) (With Source) Z (With CommonTable) (With CompoundPart) (With FromItem) (With OrderingTerm) (With Query) (With RowLimit) (With SelectCore) (With SpannedExpr) Expr JoinConstraint QueryPart ResultColumn Source Arm CommonTable CompoundPart FromItem OrderingTerm Query RowLimit SelectCore SpannedExpr of tree tree tree tree arm_of tree tree tree tree tree tree tree tree y))
    arm_step y = arm_case (of y.condition) (of y.value) (same y.condition) (same y.value)

  pub holds_same : (e : Expr) → Same e
  holds_same = ind-Expr Same (λ q. Unit {0}) (λ q. Unit {0}) (λ q. Unit {0}) (λ q. Unit {0}) SameArm (λ q. Unit {0}) (λ q. Unit {0}) (λ q. Unit {0}) (λ q. Unit {0}) (λ q. Unit {0}) (λ q. Unit {0}) (λ q. Unit {0}) (λ q. Unit {0})
      (λ l y is. subst (λ z. Same (roll-Expr z)) is (step (λ e. e.0) (λ e. e.1) (λ e. e.0) (λ e. e.1) y)) (λ l y is. tt) (λ l y is. tt) (λ l y is. tt) (λ l y is. tt)
      (λ l y is. subst (λ z. SameArm (roll-Arm z)) is (arm_step (λ e. e.0) (λ e. e.1) (λ e. e.0) (λ e. e.1) y))
      (λ l y is. tt) (λ l y is. tt) (λ l y is. tt) (λ l y is. tt) (λ l y is. tt) (λ l y is. tt) (λ l y is. tt) (λ l y is. tt)

-- what is told of the text and the facts alone
pub holds-told : (e : Expr) (o : Outer) (text : List ℕ) (facts : Facts) → o.text ≡ text → o.around.facts ≡ facts → (of_expr e).aggregates o ≡ (of_expr e).aggregates (told text facts)
holds-told e o text facts t f = holds_same o (told text facts) t f e

pub ruleset told_laws = holds-told
