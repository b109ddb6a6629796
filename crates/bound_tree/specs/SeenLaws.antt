-- A stored expression is seen as what its parts are seen as, and each expression can be stored.
use Rattle.std.proofs.Common.{◌≡◌, ℕ, List, map, refl, ap, ◌∙◌, rules}
use Rattle.eng_value.specs.declared.builtin.Builtin.{Builtin}
use Rattle.eng_value.specs.declared.collation.Collation.{Collation}
use Rattle.eng_value.specs.declared.operators.BinaryOperator.{BinaryOperator}
use Rattle.eng_value.specs.declared.operators.Sides.{Sides}
use Rattle.eng_value.specs.declared.operators.UnaryOperator.{UnaryOperator}
use Rattle.sql_words.specs.declared.literal.Literal.{Literal}
use Rattle.bound_tree.specs.Exprs as e
use Rattle.bound_tree.specs.Exprs.{BoundArm, BoundArms, BoundExpr, BoundExprs, BoundMatch, BoundMatches, NoExprs, AnExpr, NoArms, AnArm, NoMatches, AMatch, arms, exprs, matches}
use Rattle.bound_tree.specs.Seen.{arms_of, matches_of, seen, seen_arm, seen_match, tree_of, trees_of}
use Rattle.bound_tree.specs.declared.tree.ArmTree.{ArmTree}
use Rattle.bound_tree.specs.declared.tree.ExprTree.TheVariants as t
use Rattle.bound_tree.specs.declared.tree.ExprTree.{ExprTree, the_lemmas}
use Rattle.bound_tree.specs.declared.tree.MatchTree.{MatchTree}

pub seen-Literal : (l : Literal) → seen (t.Literal l) ≡ e.Literal l
seen-Literal l = search (rules, the_lemmas)

pub seen-Parameter : (n : ℕ) → seen (t.Parameter n) ≡ e.Parameter n
seen-Parameter n = search (rules, the_lemmas)

pub seen-Column : (i c : ℕ) → seen (t.Column i c) ≡ e.Column i c
seen-Column i c = search (rules, the_lemmas)

pub seen-Rowid : (i : ℕ) → seen (t.Rowid i) ≡ e.Rowid i
seen-Rowid i = search (rules, the_lemmas)

pub seen-Argument : (n : ℕ) → seen (t.Argument n) ≡ e.Argument n
seen-Argument n = search (rules, the_lemmas)

pub seen-Aggregate : (n : ℕ) → seen (t.Aggregate n) ≡ e.Aggregate n
seen-Aggregate n = search (rules, the_lemmas)

pub seen-Unary : (o : UnaryOperator) (a : ExprTree) → seen (t.Unary o a) ≡ e.Unary o (seen a)
seen-Unary o a = search (rules, the_lemmas)

pub seen-Binary : (o : BinaryOperator) (a b : ExprTree) → seen (t.Binary o a b) ≡ e.Binary o (seen a) (seen b)
seen-Binary o a b = search (rules, the_lemmas)

pub seen-LikeEscaped : (a b c : ExprTree) → seen (t.LikeEscaped a b c) ≡ e.LikeEscaped (seen a) (seen b) (seen c)
seen-LikeEscaped a b c = search (rules, the_lemmas)

pub seen-Between : (s u : Sides) (a b c : ExprTree) → seen (t.Between s u a b c) ≡ e.Between s u (seen a) (seen b) (seen c)
seen-Between s u a b c = search (rules, the_lemmas)

pub seen-In : (s : Sides) (a : ExprTree) (others : List ExprTree) → seen (t.In s a others) ≡ e.In s (seen a) (map seen others)
seen-In s a others = search (rules, the_lemmas)

pub seen-Choose : (those : List ArmTree) (a : ExprTree) → seen (t.Choose those a) ≡ e.Choose (map seen_arm those) (seen a)
seen-Choose those a = search (rules, the_lemmas)

pub seen-Match : (a : ExprTree) (those : List MatchTree) (b : ExprTree) → seen (t.Match a those b) ≡ e.Match (seen a) (map seen_match those) (seen b)
seen-Match a those b = search (rules, the_lemmas)

pub seen-Iif : (a b c : ExprTree) → seen (t.Iif a b c) ≡ e.Iif (seen a) (seen b) (seen c)
seen-Iif a b c = search (rules, the_lemmas)

pub seen-Coalesce : (f : Builtin) (args : List ExprTree) → seen (t.Coalesce f args) ≡ e.Coalesce f (map seen args)
seen-Coalesce f args = search (rules, the_lemmas)

pub seen-Call : (f : Builtin) (c : Collation) (args : List ExprTree) → seen (t.Call f c args) ≡ e.Call f c (map seen args)
seen-Call f c args = search (rules, the_lemmas)

pub seen-HostCall : (name : List ℕ) (args : List ExprTree) → seen (t.HostCall name args) ≡ e.HostCall name (map seen args)
seen-HostCall name args = search (rules, the_lemmas)

pub seen-Scalar : (u : ℕ) (args : List ExprTree) → seen (t.Scalar u args) ≡ e.Scalar u (map seen args)
seen-Scalar u args = search (rules, the_lemmas)

pub seen-Exists : (u : ℕ) (args : List ExprTree) → seen (t.Exists u args) ≡ e.Exists u (map seen args)
seen-Exists u args = search (rules, the_lemmas)

pub seen-InQuery : (s : Sides) (a : ExprTree) (u : ℕ) (args : List ExprTree) → seen (t.InQuery s a u args) ≡ e.InQuery s (seen a) u (map seen args)
seen-InQuery s a u args = search (rules, the_lemmas)

pub seen-RaiseIgnore : seen t.RaiseIgnore ≡ e.RaiseIgnore
seen-RaiseIgnore = search (rules, the_lemmas)

pub seen-RaiseAbort : (text : List ℕ) → seen (t.RaiseAbort text) ≡ e.RaiseAbort text
seen-RaiseAbort text = search (rules, the_lemmas)

pub seen_arm-parts : (a b : ExprTree) → seen_arm (record { condition = a; value = b }) ≡ record { condition = seen a; value = seen b }
seen_arm-parts a b = search (rules, the_lemmas)

pub seen_match-parts : (s : Sides) (a b : ExprTree) → seen_match (record { sides = s; operand = a; value = b }) ≡ record { sides = s; operand = seen a; value = seen b }
seen_match-parts s a b = search (rules, the_lemmas)

-- ---- each expression is what its stored tree is seen as

mutual
  pub seen-tree_of : (x : BoundExpr) → seen (tree_of x) ≡ x
  seen-tree_of (e.Literal l) = seen-Literal l
  seen-tree_of (e.Parameter n) = seen-Parameter n
  seen-tree_of (e.Column i c) = seen-Column i c
  seen-tree_of (e.Rowid i) = seen-Rowid i
  seen-tree_of (e.Argument n) = seen-Argument n
  seen-tree_of (e.Aggregate n) = seen-Aggregate n
  seen-tree_of (e.Unary o a) = seen-Unary o (tree_of a) ∙ ap (e.Unary o) (seen-tree_of a)
  seen-tree_of (e.Binary o a b) = seen-Binary o (tree_of a) (tree_of b) ∙ ap (λ x. e.Binary o x (seen (tree_of b))) (seen-tree_of a) ∙ ap (e.Binary o a) (seen-tree_of b)
  seen-tree_of (e.LikeEscaped a b c) = seen-LikeEscaped (tree_of a) (tree_of b) (tree_of c) ∙ ap (λ x. e.LikeEscaped x (seen (tree_of b)) (seen (tree_of c))) (seen-tree_of a) ∙ ap (λ x. e.LikeEscaped a x (seen (tree_of c))) (seen-tree_of b) ∙ ap (e.LikeEscaped a b) (seen-tree_of c)
  seen-tree_of (e.Between s u a b c) = seen-Between s u (tree_of a) (tree_of b) (tree_of c) ∙ ap (λ x. e.Between s u x (seen (tree_of b)) (seen (tree_of c))) (seen-tree_of a) ∙ ap (λ x. e.Between s u a x (seen (tree_of c))) (seen-tree_of b) ∙ ap (e.Between s u a b) (seen-tree_of c)
  seen-tree_of (e.InList s a others) = seen-In s (tree_of a) (trees_of others) ∙ ap (λ x. e.In s x (map seen (trees_of others))) (seen-tree_of a) ∙ ap (e.InList s a) (exprs-trees_of others)
  seen-tree_of (e.ChooseArm those a) = seen-Choose (arms_of those) (tree_of a) ∙ ap (λ x. e.Choose (map seen_arm (arms_of those)) x) (seen-tree_of a) ∙ ap (λ x. e.ChooseArm x a) (arms-arms_of those)
  seen-tree_of (e.MatchArm a those b) = seen-Match (tree_of a) (matches_of those) (tree_of b) ∙ ap (λ x. e.Match x (map seen_match (matches_of those)) (seen (tree_of b))) (seen-tree_of a) ∙ ap (λ x. e.Match a (map seen_match (matches_of those)) x) (seen-tree_of b) ∙ ap (λ x. e.MatchArm a x b) (matches-matches_of those)
  seen-tree_of (e.Iif a b c) = seen-Iif (tree_of a) (tree_of b) (tree_of c) ∙ ap (λ x. e.Iif x (seen (tree_of b)) (seen (tree_of c))) (seen-tree_of a) ∙ ap (λ x. e.Iif a x (seen (tree_of c))) (seen-tree_of b) ∙ ap (e.Iif a b) (seen-tree_of c)
  seen-tree_of (e.CoalesceList f args) = seen-Coalesce f (trees_of args) ∙ ap (e.CoalesceList f) (exprs-trees_of args)
  seen-tree_of (e.CallBuiltin f c args) = seen-Call f c (trees_of args) ∙ ap (e.CallBuiltin f c) (exprs-trees_of args)
  seen-tree_of (e.CallHost name args) = seen-HostCall name (trees_of args) ∙ ap (e.CallHost name) (exprs-trees_of args)
  seen-tree_of (e.ScalarOf u args) = seen-Scalar u (trees_of args) ∙ ap (e.ScalarOf u) (exprs-trees_of args)
  seen-tree_of (e.ExistsIn u args) = seen-Exists u (trees_of args) ∙ ap (e.ExistsIn u) (exprs-trees_of args)
  seen-tree_of (e.InUnit s a u args) = seen-InQuery s (tree_of a) u (trees_of args) ∙ ap (λ x. e.InQuery s x u (map seen (trees_of args))) (seen-tree_of a) ∙ ap (e.InUnit s a u) (exprs-trees_of args)
  seen-tree_of e.RaiseIgnore = seen-RaiseIgnore
  seen-tree_of (e.RaiseAbort text) = seen-RaiseAbort text

  pub exprs-trees_of : (xs : BoundExprs) → exprs (map seen (trees_of xs)) ≡ xs
  exprs-trees_of NoExprs = refl
  exprs-trees_of (AnExpr a rest) = ap (λ x. AnExpr x (exprs (map seen (trees_of rest)))) (seen-tree_of a) ∙ ap (AnExpr a) (exprs-trees_of rest)

  pub arms-arms_of : (xs : BoundArms) → arms (map seen_arm (arms_of xs)) ≡ xs
  arms-arms_of NoArms = refl
  arms-arms_of (AnArm a b rest) = ap (λ (x : BoundArm). AnArm x.condition x.value (arms (map seen_arm (arms_of rest)))) (seen_arm-parts (tree_of a) (tree_of b)) ∙ ap (λ x. AnArm x (seen (tree_of b)) (arms (map seen_arm (arms_of rest)))) (seen-tree_of a) ∙ ap (λ x. AnArm a x (arms (map seen_arm (arms_of rest)))) (seen-tree_of b) ∙ ap (AnArm a b) (arms-arms_of rest)

  pub matches-matches_of : (xs : BoundMatches) → matches (map seen_match (matches_of xs)) ≡ xs
  matches-matches_of NoMatches = refl
  matches-matches_of (AMatch s a b rest) = ap (λ (x : BoundMatch). AMatch x.sides x.operand x.value (matches (map seen_match (matches_of rest)))) (seen_match-parts s (tree_of a) (tree_of b)) ∙ ap (λ x. AMatch s x (seen (tree_of b)) (matches (map seen_match (matches_of rest)))) (seen-tree_of a) ∙ ap (λ x. AMatch s a x (matches (map seen_match (matches_of rest)))) (seen-tree_of b) ∙ ap (AMatch s a b) (matches-matches_of rest)
