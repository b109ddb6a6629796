-- Which items of its FROM a bound expression names.
use Rattle.std.specs.Prelude.{◌<◌, ℕ, List, [], ◌∷◌, ◌++◌, Option, Some, None}
use Rattle.std.specs.Bool.{⊤}
use Rattle.std.specs.List.{AllByRecursion}
use Rattle.bound_tree.specs.Exprs as e
use Rattle.bound_tree.specs.Exprs.{AMatch, AnArm, AnExpr, BoundArms, BoundExpr, BoundExprs, BoundMatches, NoArms, NoExprs, NoMatches}

abbrev mutual
  -- the item of each column and of each rowid in it, from left to right; also in what it hands to a query
  pub items_named : BoundExpr → List ℕ
  items_named (e.Literal l) = []
  items_named (e.Parameter number) = []
  items_named (e.Column item place) = item ∷ []
  items_named (e.Rowid item) = item ∷ []
  items_named (e.Argument place) = []
  items_named (e.Aggregate slot) = []
  items_named (e.Unary o a) = items_named a
  items_named (e.Binary o a b) = items_named a ++ items_named b
  items_named (e.LikeEscaped a b c) = items_named a ++ items_named b ++ items_named c
  items_named (e.Between above below a low high) = items_named a ++ items_named low ++ items_named high
  items_named (e.InList sides a others) = items_named a ++ items_in others
  items_named (e.ChooseArm arms last) = items_in_arms arms ++ items_named last
  items_named (e.MatchArm a arms last) = items_named a ++ items_in_matches arms ++ items_named last
  items_named (e.Iif a b c) = items_named a ++ items_named b ++ items_named c
  items_named (e.CoalesceList f args) = items_in args
  items_named (e.CallBuiltin f collation args) = items_in args
  items_named (e.CallHost name args) = items_in args
  items_named (e.ScalarOf unit handed) = items_in handed
  items_named (e.ExistsIn unit handed) = items_in handed
  items_named (e.InUnit sides a unit handed) = items_named a ++ items_in handed
  items_named e.RaiseIgnore = []
  items_named (e.RaiseAbort text) = []

  pub items_in : BoundExprs → List ℕ
  items_in NoExprs = []
  items_in (AnExpr a rest) = items_named a ++ items_in rest

  pub items_in_arms : BoundArms → List ℕ
  items_in_arms NoArms = []
  items_in_arms (AnArm a b rest) = items_named a ++ items_named b ++ items_in_arms rest

  pub items_in_matches : BoundMatches → List ℕ
  items_in_matches NoMatches = []
  items_in_matches (AMatch sides a b rest) = items_named a ++ items_named b ++ items_in_matches rest

-- ---- over so many items, leftmost 0: it names no other

abbrev pub AreBelow : ℕ → List ℕ → Type 0
AreBelow count items = AllByRecursion (λ item. item < count) items

abbrev pub NamesBelow : ℕ → BoundExpr → Type 0
NamesBelow count x = AreBelow count (items_named x)

abbrev pub EachNamesBelow : ℕ → List BoundExpr → Type 0
EachNamesBelow count xs = AllByRecursion (NamesBelow count) xs

abbrev pub NamesBelowIfThere : ℕ → Option BoundExpr → Type 0
NamesBelowIfThere count None = ⊤
NamesBelowIfThere count (Some x) = NamesBelow count x
