-- Whether what runs of a statement names only what is there.
use Rattle.std.specs.Prelude.{ℕ, suc, List, [], ◌∷◌, length, map}
use Rattle.std.specs.Bool.{⊤}
use Rattle.std.specs.List.{AllByRecursion}
use Rattle.bound_tree.specs.declared.units.BoundUnit.{BoundUnit}
use Rattle.sql_meaning.specs.Runnables.{Creates, DoesNothing, Drops, Explains, FromItem, Indexes, Puts, Queries, Query, Runnable, Shows, Unindexes}
use Rattle.sql_meaning.specs.declared.bound.BoundInsert.{BoundInsert}
use Rattle.sql_meaning.specs.declared.bound.Join.TheVariants as join
use Rattle.sql_meaning.specs.declared.bound.Join.{Join}
use Rattle.sql_meaning.specs.declared.bound.PutColumn.{PutColumn}
use Rattle.bound_laws.specs.Order.{in_front}
use Rattle.bound_laws.specs.Reach.{EachIsWithin}
use Rattle.meaning_laws.specs.Names.{EachNamesBelow, NamesBelowIfThere}

-- ---- queries

-- what makes the pairs of a LEFT JOIN names so many items
abbrev pub JoinNamesBelow : ℕ → Join → Type 0
JoinNamesBelow count join.Inner = ⊤
JoinNamesBelow count (join.Left ons) = EachNamesBelow count ons

-- with so many items on the left of these, each names the items up to its own
abbrev pub JoinsAreWithin : ℕ → List FromItem → Type 0
JoinsAreWithin left [] = ⊤
JoinsAreWithin left (i ∷ items) = JoinNamesBelow (suc left) i.join × JoinsAreWithin (suc left) items

-- what is tested and what is shown name the items of the FROM
pub record QueryIsWithin (q : Query) : Type 0 where
  pub joins : JoinsAreWithin 0 q.from
  pub conjuncts : EachNamesBelow (length q.from) q.conjuncts
  pub results : EachNamesBelow (length q.from) q.results

-- ---- INSERT

-- the rows of the source and the defaults name nothing, and the CHECKs name the row that is put, which is item 0
pub record InsertIsWithin (i : BoundInsert) : Type 0 where
  pub rows : AllByRecursion (EachNamesBelow 0) i.rows
  pub defaults : AllByRecursion (λ (c : PutColumn). NamesBelowIfThere 0 c.default) i.columns
  pub checks : EachNamesBelow 1 i.checks

-- ---- anything that runs

abbrev pub RunnableIsWithin : Runnable → Type 0
RunnableIsWithin (Queries q) = QueryIsWithin q
RunnableIsWithin (Shows rows) = AllByRecursion (EachNamesBelow 0) rows
RunnableIsWithin (Puts p) = InsertIsWithin p.insert
RunnableIsWithin (Creates entry) = ⊤
RunnableIsWithin (Drops table) = ⊤
RunnableIsWithin (Indexes index) = ⊤
RunnableIsWithin (Unindexes name) = ⊤
RunnableIsWithin DoesNothing = ⊤
RunnableIsWithin (Explains how b) = RunnableIsWithin b

-- ---- columns

-- how many columns each item has
abbrev pub widths_in : List FromItem → List ℕ
widths_in items = map (λ (i : FromItem). i.width) items

-- a query names columns that the items of its FROM have, and no argument and no aggregate; there are units that take what it hands them
pub record HasColumns (q : Query) : Type 0 where
  pub units : List BoundUnit
  pub conjuncts : EachIsWithin (in_front units 0) (widths_in q.from) q.conjuncts
  pub results : EachIsWithin (in_front units 0) (widths_in q.from) q.results

-- rows of values name none of these
abbrev pub NamesColumns : Runnable → Type 0
NamesColumns (Queries q) = HasColumns q
NamesColumns (Shows rows) = (units : List BoundUnit) × AllByRecursion (EachIsWithin (in_front units 0) []) rows
NamesColumns other = ⊤
