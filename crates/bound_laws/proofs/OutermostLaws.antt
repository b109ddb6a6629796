-- A query with no FROM and no WITH table around it.
use Rattle.std.proofs.Common.{◌≡◌, ℕ, List, [], Ok, sym, subst}
use Rattle.std.specs.List.{AllByRecursion}
use Rattle.sql_tree.specs.declared.query.Query.{Query}
use Rattle.bound_tree.specs.declared.units.BoundUnit.{BoundUnit}
use Rattle.sql_bound.specs.Scopes.{Around, Level, Outer}
use Rattle.sql_bound.specs.Trees.{of_query}
use Rattle.sql_bound.specs.declared.scopes.Asked.{Asked}
use Rattle.sql_bound.specs.declared.scopes.WithEntry.{WithEntry}
use Rattle.bound_laws.specs.Views.{levels_deep}
use Rattle.bound_laws.proofs.Lists.{begins_itself}
use Rattle.bound_laws.proofs.States.{AskedFits, DepthFits, EntryFits, LevelsFit, OuterFits}
use Rattle.bound_laws.proofs.TreeLaws.{query_is_good}
use Rattle.bound_laws.proofs.Triples.{given}
use Rattle.bound_laws.proofs.ViewLaws.{levels_fit}

pub outermost_fits : (around : Around) (depth : ℕ) (o : Outer) (units : List BoundUnit) → o.depth ≡ levels_deep around depth → o.levels ≡ [] → o.tables ≡ [] → OuterFits units [] o
outermost_fits around depth o units deep levels tables = record {
  levels = subst (λ (l : List Level). LevelsFit [] l) (sym levels) tt;
  tables = subst (λ (ts : List WithEntry). AllByRecursion (EntryFits units []) ts) (sym tables) tt;
  depth = subst DepthFits (sym deep) (levels_fit around depth);
}

pub query_fits : (around : Around) (depth : ℕ) (q : Query) (o : Outer) (units : List BoundUnit) (r : Asked × List BoundUnit) → o.depth ≡ levels_deep around depth → o.levels ≡ [] → o.tables ≡ [] → (of_query q).bound o units ≡ Ok r → AskedFits units [] r
query_fits around depth q o units r deep levels tables is =
    given (AskedFits units []) ((of_query q).bound o units) r ((query_is_good q).asks units [] o (outermost_fits around depth o units deep levels tables) units (begins_itself units)) is
