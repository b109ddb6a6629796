-- How large bound expressions are.
use Rattle.std.specs.Prelude.{ℕ, ◌+◌, List, map}
use Rattle.sql_tree.specs.Sizes.{total}
use Rattle.bound_tree.specs.Exprs as e
use Rattle.bound_tree.specs.Exprs.{BoundArms, BoundExpr, BoundExprs, BoundMatches, NoExprs, AnExpr, NoArms, AnArm, NoMatches, AMatch}

abbrev mutual
  -- 1 for each node and each arm
  pub nodes_of : BoundExpr → ℕ
  nodes_of (e.Literal l) = 1
  nodes_of (e.Parameter number) = 1
  nodes_of (e.Column item place) = 1
  nodes_of (e.Rowid item) = 1
  nodes_of (e.Argument place) = 1
  nodes_of (e.Aggregate slot) = 1
  nodes_of (e.Unary op a) = 1 + nodes_of a
  nodes_of (e.Binary op a b) = 1 + nodes_of a + nodes_of b
  nodes_of (e.LikeEscaped a b c) = 1 + nodes_of a + nodes_of b + nodes_of c
  nodes_of (e.Between above below a low high) = 1 + nodes_of a + nodes_of low + nodes_of high
  nodes_of (e.InList sides a others) = 1 + nodes_of a + nodes_in others
  nodes_of (e.ChooseArm arms otherwise) = 1 + nodes_in_arms arms + nodes_of otherwise
  nodes_of (e.MatchArm a arms otherwise) = 1 + nodes_of a + nodes_in_matches arms + nodes_of otherwise
  nodes_of (e.Iif a b c) = 1 + nodes_of a + nodes_of b + nodes_of c
  nodes_of (e.CoalesceList f es) = 1 + nodes_in es
  nodes_of (e.CallBuiltin f collation args) = 1 + nodes_in args
  nodes_of (e.CallHost name args) = 1 + nodes_in args
  nodes_of (e.ScalarOf unit args) = 1 + nodes_in args
  nodes_of (e.ExistsIn unit args) = 1 + nodes_in args
  nodes_of (e.InUnit sides a unit args) = 1 + nodes_of a + nodes_in args
  nodes_of e.RaiseIgnore = 1
  nodes_of (e.RaiseAbort text) = 1

  pub nodes_in : BoundExprs → ℕ
  nodes_in NoExprs = 0
  nodes_in (AnExpr a rest) = nodes_of a + nodes_in rest

  pub nodes_in_arms : BoundArms → ℕ
  nodes_in_arms NoArms = 0
  nodes_in_arms (AnArm a b rest) = 1 + nodes_of a + nodes_of b + nodes_in_arms rest

  pub nodes_in_matches : BoundMatches → ℕ
  nodes_in_matches NoMatches = 0
  nodes_in_matches (AMatch sides a b rest) = 1 + nodes_of a + nodes_of b + nodes_in_matches rest

abbrev pub all_nodes : List BoundExpr → ℕ
all_nodes es = total (map nodes_of es)
