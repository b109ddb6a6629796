-- How many instructions an expression takes at most.
use Rattle.std.specs.Prelude.{ℕ, ◌+◌}
use Rattle.eng_value.specs.declared.operators.BinaryOperator.{BinaryOperator}
use Rattle.eng_value.specs.declared.operators.BinaryOperator.TheVariants as binary
use Rattle.bound_tree.specs.Exprs as e
use Rattle.bound_tree.specs.Exprs.{BoundArm, BoundArms, BoundExpr, BoundExprs, BoundMatch, BoundMatches, NoExprs, AnExpr, NoArms, AnArm, NoMatches, AMatch}

-- those of a test whether the left side decides alone
abbrev pub test_steps : BinaryOperator → ℕ
test_steps binary.And = 2
test_steps binary.Or = 2
test_steps other = 0

abbrev mutual
  pub steps_of : BoundExpr → ℕ
  steps_of (e.Literal l) = 1
  steps_of (e.Parameter number) = 1
  steps_of (e.Column item place) = 1
  steps_of (e.Rowid item) = 1
  steps_of (e.Argument place) = 1
  steps_of (e.Aggregate slot) = 1
  steps_of (e.Unary op a) = steps_of a + 1
  steps_of (e.Binary op a b) = steps_of a + steps_of b + 1 + test_steps op
  steps_of (e.LikeEscaped a b c) = steps_of a + steps_of b + steps_of c + 1
  steps_of (e.Between above below a low high) = steps_of a + steps_of low + steps_of high + 3
  steps_of (e.InList sides a others) = steps_of a + 2 + steps_of_others others
  steps_of (e.ChooseArm arms otherwise) = steps_of_arms arms + steps_of otherwise
  steps_of (e.MatchArm a arms otherwise) = steps_of a + steps_of_matches arms + steps_of otherwise
  steps_of (e.Iif a b c) = steps_of a + steps_of b + 4 + steps_of c
  steps_of (e.CoalesceList f es) = steps_of_others es + 1
  steps_of (e.CallBuiltin f collation args) = steps_of_all args + 1
  steps_of (e.CallHost name args) = 1
  steps_of (e.ScalarOf unit args) = 1
  steps_of (e.ExistsIn unit args) = 1
  steps_of (e.InUnit sides a unit args) = 1
  steps_of e.RaiseIgnore = 1
  steps_of (e.RaiseAbort text) = 1

  pub steps_of_all : BoundExprs → ℕ
  steps_of_all NoExprs = 0
  steps_of_all (AnExpr a rest) = steps_of a + steps_of_all rest

  -- each with a test behind it
  pub steps_of_others : BoundExprs → ℕ
  steps_of_others NoExprs = 0
  steps_of_others (AnExpr a rest) = steps_of a + 2 + steps_of_others rest

  pub steps_of_arms : BoundArms → ℕ
  steps_of_arms NoArms = 0
  steps_of_arms (AnArm a b rest) = steps_of a + steps_of b + 4 + steps_of_arms rest

  pub steps_of_matches : BoundMatches → ℕ
  steps_of_matches NoMatches = 0
  steps_of_matches (AMatch sides a b rest) = steps_of a + steps_of b + 5 + steps_of_matches rest

abbrev pub arm_steps_of : BoundArm → ℕ
arm_steps_of arm = steps_of arm.condition + steps_of arm.value + 4

abbrev pub match_steps_of : BoundMatch → ℕ
match_steps_of arm = steps_of arm.operand + steps_of arm.value + 5
