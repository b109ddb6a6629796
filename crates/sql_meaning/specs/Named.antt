-- The hosts that a statement names.
use Rattle.std.specs.Prelude.{ℕ, List, [], ◌∷◌, ◌++◌, Result, Ok, Err}
use Rattle.std.specs.List.{flat_map}
use Rattle.std.specs.Option.{option_to_list}
use Rattle.eng_value.specs.HostMeanings.{HostName, NamesTold, CollationAt}
use Rattle.eng_value.specs.declared.cause.Cause.{Cause}
use Rattle.eng_value.specs.declared.collation.Collation.{Collation}
use Rattle.eng_value.specs.declared.collation.Collation.TheVariants as collation
use Rattle.eng_value.specs.declared.operators.BinaryOperator.{BinaryOperator}
use Rattle.eng_value.specs.declared.operators.BinaryOperator.TheVariants as binary
use Rattle.eng_value.specs.declared.operators.Sides.{Sides}
use Rattle.bound_tree.specs.Exprs as e
use Rattle.bound_tree.specs.Exprs.{BoundArms, BoundExpr, BoundExprs, BoundMatches, NoExprs, AnExpr, NoArms, AnArm, NoMatches, AMatch}
use Rattle.sql_meaning.specs.declared.bound.BoundInsert.{BoundInsert}
use Rattle.sql_meaning.specs.declared.bound.PutColumn.{PutColumn}
use Rattle.sql_meaning.specs.Runnables.{Runnable, Creates, DoesNothing, Drops, Indexes, Puts, Queries, Query, Shows, Unindexes, Explains}
use Rattle.sql_meaning.specs.Work.{tested_in}
use Rattle.sql_meaning.specs.Statement.{bound_for}
use Rattle.sql_meaning.specs.World.{Context}

abbrev pub Names : Type 0
Names = List HostName

abbrev pub in_collation : Collation → Names
in_collation (collation.Built b) = []
in_collation (collation.Host place) = CollationAt place ∷ []

abbrev pub in_sides : Sides → Names
in_sides sides = in_collation sides.collation

abbrev pub in_operator : BinaryOperator → Names
in_operator (binary.Compare op sides) = in_sides sides
in_operator (binary.Is sides) = in_sides sides
in_operator other = []

abbrev mutual
  -- the collations by which it compares; no function of a host is built
  pub named_in : BoundExpr → Names
  named_in (e.Literal l) = []
  named_in (e.Parameter number) = []
  named_in (e.Column item place) = []
  named_in (e.Rowid item) = []
  named_in (e.Argument place) = []
  named_in (e.Aggregate slot) = []
  named_in (e.Unary op a) = named_in a
  named_in (e.Binary op a b) = in_operator op ++ named_in a ++ named_in b
  named_in (e.LikeEscaped a b c) = named_in a ++ named_in b ++ named_in c
  named_in (e.Between above below a low high) = in_sides above ++ in_sides below ++ named_in a ++ named_in low ++ named_in high
  named_in (e.InList sides a others) = in_sides sides ++ named_in a ++ named_in_all others
  named_in (e.ChooseArm arms otherwise) = named_in_arms arms ++ named_in otherwise
  named_in (e.MatchArm a arms otherwise) = named_in a ++ named_in_matches arms ++ named_in otherwise
  named_in (e.Iif a b c) = named_in a ++ named_in b ++ named_in c
  named_in (e.CoalesceList f es) = named_in_all es
  named_in (e.CallBuiltin f c args) = in_collation c ++ named_in_all args
  named_in (e.CallHost name args) = named_in_all args
  named_in (e.ScalarOf unit args) = named_in_all args
  named_in (e.ExistsIn unit args) = named_in_all args
  named_in (e.InUnit sides a unit args) = in_sides sides ++ named_in a ++ named_in_all args
  named_in e.RaiseIgnore = []
  named_in (e.RaiseAbort text) = []

  pub named_in_all : BoundExprs → Names
  named_in_all NoExprs = []
  named_in_all (AnExpr a rest) = named_in a ++ named_in_all rest

  pub named_in_arms : BoundArms → Names
  named_in_arms NoArms = []
  named_in_arms (AnArm a b rest) = named_in a ++ named_in b ++ named_in_arms rest

  pub named_in_matches : BoundMatches → Names
  named_in_matches NoMatches = []
  named_in_matches (AMatch sides a b rest) = in_sides sides ++ named_in a ++ named_in b ++ named_in_matches rest

abbrev pub named_by_row : List BoundExpr → Names
named_by_row row = flat_map named_in row

abbrev pub named_by_query : Query → Names
named_by_query q = named_by_row (tested_in q) ++ named_by_row q.results

abbrev pub named_by_column : PutColumn → Names
named_by_column c = flat_map named_in (option_to_list c.default)

-- the source, the defaults and the CHECKs
abbrev pub named_by_insert : BoundInsert → Names
named_by_insert b = flat_map named_by_row b.rows ++ flat_map named_by_column b.columns ++ named_by_row b.checks

abbrev pub named_by : Result Runnable Cause → Names
named_by (Ok (Creates e)) = []
named_by (Ok (Drops t)) = []
named_by (Ok (Indexes i)) = []
named_by (Ok (Unindexes name)) = []
named_by (Ok (Puts p)) = named_by_insert p.insert
named_by (Ok (Queries q)) = named_by_query q
named_by (Ok (Shows rows)) = flat_map named_by_row rows
named_by (Ok DoesNothing) = []
named_by (Ok (Explains how b)) = []
named_by (Err why) = []

-- each host that a text names, where it is bound, tells what it means
unfoldable pub TextIsTold : Context → List ℕ → Type 0
TextIsTold ctx text = NamesTold ctx.hosts (named_by (bound_for ctx text))
