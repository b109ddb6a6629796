-- What a condition is split into.
use Rattle.std.proofs.Common.{◌≡◌, ◌≢◌, List, [], ◌∷◌, ◌++◌, Result, Ok, Err, refl, ◌∙◌, rules, sym}
use Rattle.eng_value.specs.declared.operators.BinaryOperator.{BinaryOperator}
use Rattle.eng_value.specs.declared.operators.BinaryOperator.TheVariants as binary
use Rattle.sql_tree.specs.declared.expr.BinaryOp.{BinaryOp}
use Rattle.sql_tree.specs.declared.expr.BinaryOp.TheVariants as op
use Rattle.sql_tree.specs.declared.expr.Expr.{Expr, fold-roll-Expr, out-Expr, roll-Expr, roll-out-Expr, the_lemmas}
use Rattle.sql_tree.specs.declared.expr.Expr.TheOpen.{Expr-F}
use Rattle.sql_tree.specs.declared.expr.Expr.TheVariants.{rolls-Binary}
use Rattle.sql_tree.specs.declared.expr.Expr.TheVariants as x
use Rattle.sql_tree.specs.Layers.{ExprLayer}
use Rattle.bound_tree.specs.Exprs.{BoundExpr}
use Rattle.bound_tree.specs.Exprs as e
use Rattle.bound_tree.specs.Halves.{halves_of}
use Rattle.sql_bound.specs.Expressions.{conjuncts_step, split_by}
use Rattle.sql_bound.specs.Trees.{of_expr}

-- ---- by the halves of the bound tree

abbrev pub by_halves : (BoundExpr → List BoundExpr) → (BoundExpr → List BoundExpr) → Result (BoundExpr × BoundExpr) BoundExpr → List BoundExpr
by_halves left right (Ok p) = left p.0 ++ right p.1
by_halves left right (Err tree) = tree ∷ []

module _ (left right : BoundExpr → List BoundExpr) where
  binary_split : (o : BinaryOperator) (a b : BoundExpr) → split_by left right (e.Binary o a b) ≡ by_halves left right (halves_of (e.Binary o a b))
  binary_split (binary.Arithmetic o) a b = refl
  binary_split (binary.Integers o) a b = refl
  binary_split binary.Concatenate a b = refl
  binary_split binary.And a b = refl
  binary_split binary.Or a b = refl
  binary_split (binary.Compare o s) a b = refl
  binary_split (binary.Is s) a b = refl
  binary_split binary.Like a b = refl
  binary_split binary.Glob a b = refl

  pub split_by-halves : (t : BoundExpr) → split_by left right t ≡ by_halves left right (halves_of t)
  split_by-halves (e.Literal l) = refl
  split_by-halves (e.Parameter n) = refl
  split_by-halves (e.Column i c) = refl
  split_by-halves (e.Rowid i) = refl
  split_by-halves (e.Argument n) = refl
  split_by-halves (e.Aggregate n) = refl
  split_by-halves (e.Unary o a) = refl
  split_by-halves (e.Binary o a b) = binary_split o a b
  split_by-halves (e.LikeEscaped a b c) = refl
  split_by-halves (e.Between s u a b c) = refl
  split_by-halves (e.InList s a others) = refl
  split_by-halves (e.ChooseArm arms a) = refl
  split_by-halves (e.MatchArm a arms b) = refl
  split_by-halves (e.Iif a b c) = refl
  split_by-halves (e.CoalesceList f args) = refl
  split_by-halves (e.CallBuiltin f c args) = refl
  split_by-halves (e.CallHost name args) = refl
  split_by-halves (e.ScalarOf u args) = refl
  split_by-halves (e.ExistsIn u args) = refl
  split_by-halves (e.InUnit s a u args) = refl
  split_by-halves e.RaiseIgnore = refl
  split_by-halves (e.RaiseAbort text) = refl

-- ---- by the condition as it is written

pub conjuncts-And : (a b : Expr) (t : BoundExpr) → (of_expr (x.Binary op.And a b)).conjuncts t ≡ by_halves (of_expr a).conjuncts (of_expr b).conjuncts (halves_of t)
conjuncts-And a b t = whole ∙ split_by-halves (of_expr a).conjuncts (of_expr b).conjuncts t
  where
    whole : (of_expr (x.Binary op.And a b)).conjuncts t ≡ split_by (of_expr a).conjuncts (of_expr b).conjuncts t
    whole = search (rules, the_lemmas)

pub conjuncts-one : (o : BinaryOp) (a b : Expr) (t : BoundExpr) → o ≢ op.And → (of_expr (x.Binary o a b)).conjuncts t ≡ t ∷ []
conjuncts-one o a b t not_and = binary_is ∙ by o not_and
  where
    binary_is : (of_expr (x.Binary o a b)).conjuncts t ≡ conjuncts_step (Expr-F.Binary o (of_expr a) (of_expr b)) t
    binary_is = search (rules, the_lemmas)

    by : (o : BinaryOp) → o ≢ op.And → conjuncts_step (Expr-F.Binary o (of_expr a) (of_expr b)) t ≡ t ∷ []
    by op.And not_and = absurd (not_and refl)
    by op.Or not_and = refl
    by op.Equal not_and = refl
    by op.NotEqual not_and = refl
    by op.Is not_and = refl
    by op.IsNot not_and = refl
    by op.Glob not_and = refl
    by op.Less not_and = refl
    by op.LessEqual not_and = refl
    by op.Greater not_and = refl
    by op.GreaterEqual not_and = refl
    by op.BitAnd not_and = refl
    by op.BitOr not_and = refl
    by op.ShiftLeft not_and = refl
    by op.ShiftRight not_and = refl
    by op.Add not_and = refl
    by op.Subtract not_and = refl
    by op.Multiply not_and = refl
    by op.Divide not_and = refl
    by op.Remainder not_and = refl
    by op.Concatenate not_and = refl

layer_one : (l : ExprLayer) (t : BoundExpr) → ((o : BinaryOp) (a b : Expr) → roll-Expr l ≢ x.Binary o a b) → (of_expr (roll-Expr l)).conjuncts t ≡ t ∷ []
layer_one (Expr-F.Literal n) t h = rw fold-roll-Expr refl
layer_one (Expr-F.Parameter n) t h = rw fold-roll-Expr refl
layer_one (Expr-F.Column n) t h = rw fold-roll-Expr refl
layer_one (Expr-F.TableColumn n c) t h = rw fold-roll-Expr refl
layer_one (Expr-F.Unary o a) t h = rw fold-roll-Expr refl
layer_one (Expr-F.Binary o a b) t h = absurd (h o a b (rolls-Binary o a b))
layer_one (Expr-F.Between a b c) t h = rw fold-roll-Expr refl
layer_one (Expr-F.Like a b c) t h = rw fold-roll-Expr refl
layer_one (Expr-F.In a others) t h = rw fold-roll-Expr refl
layer_one (Expr-F.InQuery a q) t h = rw fold-roll-Expr refl
layer_one (Expr-F.Subquery q) t h = rw fold-roll-Expr refl
layer_one (Expr-F.Exists q) t h = rw fold-roll-Expr refl
layer_one (Expr-F.Collate a n) t h = rw fold-roll-Expr refl
layer_one (Expr-F.Cast a n) t h = rw fold-roll-Expr refl
layer_one (Expr-F.Call n how args filter) t h = rw fold-roll-Expr refl
layer_one (Expr-F.Case a arms otherwise) t h = rw fold-roll-Expr refl
layer_one Expr-F.RaiseIgnore t h = rw fold-roll-Expr refl
layer_one (Expr-F.RaiseAbort n) t h = rw fold-roll-Expr refl

pub conjuncts-other : (e : Expr) (t : BoundExpr) → ((o : BinaryOp) (a b : Expr) → e ≢ x.Binary o a b) → (of_expr e).conjuncts t ≡ t ∷ []
conjuncts-other e t not_binary =
    let is = roll-out-Expr e in
    rw is at (layer_one (out-Expr e) t (λ o a b h. not_binary o a b (sym is ∙ h)))

-- ---- as the code goes

pub conjuncts-halved : (e : Expr) (o : BinaryOp) (a b : Expr) (t l r : BoundExpr) → e ≡ x.Binary o a b → o ≡ op.And → halves_of t ≡ Ok (l, r)
    → (of_expr e).conjuncts t ≡ (of_expr a).conjuncts l ++ (of_expr b).conjuncts r
conjuncts-halved e o a b t l r is and_is halved = rw (is, and_is, conjuncts-And a b t, halved) refl

pub conjuncts-whole : (e : Expr) (o : BinaryOp) (a b : Expr) (t u : BoundExpr) → e ≡ x.Binary o a b → o ≡ op.And → halves_of t ≡ Err u
    → (of_expr e).conjuncts t ≡ u ∷ []
conjuncts-whole e o a b t u is and_is whole = rw (is, and_is, conjuncts-And a b t, whole) refl
