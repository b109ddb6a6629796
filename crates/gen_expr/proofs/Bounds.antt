-- How many instructions an expression takes at most, by how many nodes it has.
use Rattle.std.proofs.Common.{arith, ℕ, ◌+◌, ◌*◌, ◌≤◌, List, [], ◌∷◌, length}
use Rattle.std.specs.Prelude.{sum_by}
use Rattle.std.proofs.Math.Nat.{mul-le-mul_left}
use Rattle.std.proofs.lemmas.List.Sums.{sum_by-cons}
use Rattle.eng_value.specs.declared.operators.BinaryOperator.{BinaryOperator}
use Rattle.eng_value.specs.declared.operators.BinaryOperator.TheVariants as binary
use Rattle.bound_size.specs.Sizes.{all_nodes, nodes_in, nodes_in_arms, nodes_in_matches, nodes_of}
use Rattle.bound_tree.specs.Exprs as e
use Rattle.bound_tree.specs.Exprs.{BoundArms, BoundExpr, BoundExprs, BoundMatches, NoExprs, AnExpr, NoArms, AnArm, NoMatches, AMatch}
use Rattle.gen_expr.specs.Steps.{steps_of, steps_of_all, steps_of_others, steps_of_arms, steps_of_matches, test_steps}

-- ---- every expression

-- a test has at most two
test_few : (op : BinaryOperator) → test_steps op ≤ 2
test_few (binary.Arithmetic o) = omega arith
test_few (binary.Integers o) = omega arith
test_few binary.Concatenate = omega arith
test_few binary.And = omega arith
test_few binary.Or = omega arith
test_few (binary.Compare o sides) = omega arith
test_few (binary.Is sides) = omega arith
test_few binary.Like = omega arith
test_few binary.Glob = omega arith

mutual
  -- an expression takes at most three instructions for each node, less two
  pub steps_and_two_within : (x : BoundExpr) → steps_of x + 2 ≤ 3 * nodes_of x
  steps_and_two_within (e.Literal l) = omega arith
  steps_and_two_within (e.Parameter number) = omega arith
  steps_and_two_within (e.Column item place) = omega arith
  steps_and_two_within (e.Rowid item) = omega arith
  steps_and_two_within (e.Argument place) = omega arith
  steps_and_two_within (e.Aggregate slot) = omega arith
  steps_and_two_within (e.Unary op a) = omega (arith, steps_and_two_within a)
  steps_and_two_within (e.Binary op a b) = omega (arith, steps_and_two_within a, steps_and_two_within b, test_few op)
  steps_and_two_within (e.LikeEscaped a b c) = omega (arith, steps_and_two_within a, steps_and_two_within b, steps_and_two_within c)
  steps_and_two_within (e.Between above below a low high) = omega (arith, steps_and_two_within a, steps_and_two_within low, steps_and_two_within high)
  steps_and_two_within (e.InList sides a others) = omega (arith, steps_and_two_within a, others-within others)
  steps_and_two_within (e.ChooseArm arms otherwise) = omega (arith, arms-within arms, steps_and_two_within otherwise)
  steps_and_two_within (e.MatchArm a arms otherwise) = omega (arith, steps_and_two_within a, matches-within arms, steps_and_two_within otherwise)
  steps_and_two_within (e.Iif a b c) = omega (arith, steps_and_two_within a, steps_and_two_within b, steps_and_two_within c)
  steps_and_two_within (e.CoalesceList f es) = omega (arith, others-within es)
  steps_and_two_within (e.CallBuiltin f collation args) = omega (arith, all-within args)
  steps_and_two_within (e.CallHost name args) = omega arith
  steps_and_two_within (e.ScalarOf unit args) = omega arith
  steps_and_two_within (e.ExistsIn unit args) = omega arith
  steps_and_two_within (e.InUnit sides a unit args) = omega arith
  steps_and_two_within e.RaiseIgnore = omega arith
  steps_and_two_within (e.RaiseAbort text) = omega arith

  all-within : (xs : BoundExprs) → steps_of_all xs ≤ 3 * nodes_in xs
  all-within NoExprs = omega arith
  all-within (AnExpr a rest) = omega (arith, steps_and_two_within a, all-within rest)

  others-within : (xs : BoundExprs) → steps_of_others xs ≤ 3 * nodes_in xs
  others-within NoExprs = omega arith
  others-within (AnExpr a rest) = omega (arith, steps_and_two_within a, others-within rest)

  arms-within : (xs : BoundArms) → steps_of_arms xs ≤ 3 * nodes_in_arms xs
  arms-within NoArms = omega arith
  arms-within (AnArm a b rest) = omega (arith, steps_and_two_within a, steps_and_two_within b, arms-within rest)

  matches-within : (xs : BoundMatches) → steps_of_matches xs ≤ 3 * nodes_in_matches xs
  matches-within NoMatches = omega arith
  matches-within (AMatch sides a b rest) = omega (arith, steps_and_two_within a, steps_and_two_within b, matches-within rest)

-- an expression has a node
pub some_nodes : (x : BoundExpr) → 1 ≤ nodes_of x
some_nodes x = omega (arith, steps_and_two_within x)

-- an expression takes at most six instructions for each node
pub steps_within : (x : BoundExpr) → steps_of x ≤ 6 * nodes_of x
steps_within x = omega (arith, steps_and_two_within x)

-- ---- lists of expressions

-- a list is at most as long as its expressions have nodes
pub length_within : (xs : List BoundExpr) → length xs ≤ all_nodes xs
length_within [] = omega arith
length_within (x ∷ xs) = omega (arith, some_nodes x, length_within xs)

-- expressions in turn take at most six instructions for each node
pub sum_steps_within : (xs : List BoundExpr) → sum_by steps_of xs ≤ 6 * all_nodes xs
sum_steps_within [] = omega arith
sum_steps_within (x ∷ xs) = omega (arith, steps_within x, sum_steps_within xs, sum_by-cons steps_of x xs)

-- with some more instructions for each expression, at most that many more for each node
pub sum_steps_more : (xs : List BoundExpr) (k : ℕ) → sum_by (λ x. steps_of x + k) xs ≤ (6 + k) * all_nodes xs
sum_steps_more [] k = omega arith
sum_steps_more (x ∷ xs) k = omega (arith, steps_within x, sum_steps_more xs k, sum_by-cons (λ x. steps_of x + k) x xs, mul-le-mul_left k (some_nodes x))
