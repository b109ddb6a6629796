-- What the code of an expression needs of cursors: those of the items that it names are open where expressions read.
use Rattle.std.specs.Prelude.{List, [], ◌∷◌, ◌++◌}
use Rattle.bound_tree.specs.Exprs as e
use Rattle.bound_tree.specs.Exprs.{BoundArm, BoundArms, BoundExpr, BoundExprs, BoundMatch, BoundMatches, NoExprs, AnExpr, NoArms, AnArm, NoMatches, AMatch}
use Rattle.vm_code.specs.declared.open_cursor.Need.{Need}
use Rattle.vm_code.specs.declared.open_cursor.Need.TheVariants as need

abbrev mutual
  pub needs_of : BoundExpr → List Need
  needs_of (e.Literal l) = []
  needs_of (e.Parameter number) = []
  needs_of (e.Column item place) = need.Rows item ∷ []
  needs_of (e.Rowid item) = need.Rows item ∷ []
  needs_of (e.Argument place) = []
  needs_of (e.Aggregate slot) = []
  needs_of (e.Unary op a) = needs_of a
  needs_of (e.Binary op a b) = needs_of a ++ needs_of b
  needs_of (e.LikeEscaped a b c) = needs_of a ++ needs_of b ++ needs_of c
  needs_of (e.Between above below a low high) = needs_of a ++ needs_of low ++ needs_of high
  needs_of (e.InList sides a others) = needs_of a ++ needs_of_all others
  needs_of (e.ChooseArm arms otherwise) = needs_of_arms arms ++ needs_of otherwise
  needs_of (e.MatchArm a arms otherwise) = needs_of a ++ needs_of_matches arms ++ needs_of otherwise
  needs_of (e.Iif a b c) = needs_of a ++ needs_of b ++ needs_of c
  needs_of (e.CoalesceList f es) = needs_of_all es
  needs_of (e.CallBuiltin f collation args) = needs_of_all args
  needs_of (e.CallHost name args) = []
  needs_of (e.ScalarOf unit args) = []
  needs_of (e.ExistsIn unit args) = []
  needs_of (e.InUnit sides a unit args) = []
  needs_of e.RaiseIgnore = []
  needs_of (e.RaiseAbort text) = []

  pub needs_of_all : BoundExprs → List Need
  needs_of_all NoExprs = []
  needs_of_all (AnExpr a rest) = needs_of a ++ needs_of_all rest

  pub needs_of_arms : BoundArms → List Need
  needs_of_arms NoArms = []
  needs_of_arms (AnArm a b rest) = needs_of a ++ needs_of b ++ needs_of_arms rest

  pub needs_of_matches : BoundMatches → List Need
  needs_of_matches NoMatches = []
  needs_of_matches (AMatch sides a b rest) = needs_of a ++ needs_of b ++ needs_of_matches rest

abbrev pub arm_needs_of : BoundArm → List Need
arm_needs_of arm = needs_of arm.condition ++ needs_of arm.value

abbrev pub match_needs_of : BoundMatch → List Need
match_needs_of arm = needs_of arm.operand ++ needs_of arm.value
