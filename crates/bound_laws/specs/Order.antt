-- Whether what bound queries name is there, and units name only those in front of them.
use Rattle.std.specs.Prelude.{◌≡◌, ◌<◌, ℕ, List, [], ◌∷◌, ◌++◌, length, map, Option, Some, None}
use Rattle.std.specs.Bool.{⊤}
use Rattle.std.specs.List.{AllByRecursion}
use Rattle.bound_tree.specs.declared.units.BoundAggregate.{BoundAggregate}
use Rattle.bound_tree.specs.declared.units.BoundCompound.{BoundCompound}
use Rattle.bound_tree.specs.declared.units.BoundCore.{BoundCore}
use Rattle.bound_tree.specs.declared.units.BoundGroups.{BoundGroups}
use Rattle.bound_tree.specs.declared.units.BoundItem.{BoundItem}
use Rattle.bound_tree.specs.declared.units.BoundKey.{BoundKey}
use Rattle.bound_tree.specs.declared.units.BoundPart.TheVariants.{Select, Values}
use Rattle.bound_tree.specs.declared.units.BoundPart.{BoundPart}
use Rattle.bound_tree.specs.declared.units.BoundQuery.{BoundQuery}
use Rattle.bound_tree.specs.declared.units.BoundRecursion.{BoundRecursion}
use Rattle.bound_tree.specs.declared.units.BoundSource.TheVariants as source
use Rattle.bound_tree.specs.declared.units.BoundSource.{BoundSource}
use Rattle.bound_tree.specs.declared.units.BoundTerm.{BoundTerm}
use Rattle.bound_tree.specs.declared.units.BoundUnit.TheVariants.{Queried, Recursed}
use Rattle.bound_tree.specs.declared.units.BoundUnit.{BoundUnit}
use Rattle.bound_tree.specs.declared.units.TermKey.TheVariants.{Expression, Result}
use Rattle.bound_tree.specs.declared.units.TermKey.{TermKey}
use Rattle.bound_laws.specs.Reach.{EachIsWithin, IsWithin, IsWithinIfThere, Reach, Serves}

-- ---- FROM

abbrev pub width_of : BoundItem → ℕ
width_of item = length item.columns

abbrev pub widths_of : List BoundItem → List ℕ
widths_of items = map width_of items

-- of an item so wide: the arguments of a module name the items on the left; what is handed to a query names none, and it gives as many columns
abbrev pub SourceIsWithin : Reach → List ℕ → ℕ → BoundSource → Type 0
SourceIsWithin r left width source.Given = ⊤
SourceIsWithin r left width (source.Table name number) = ⊤
SourceIsWithin r left width (source.Module name host number args) = EachIsWithin r left args
SourceIsWithin r left width (source.View name unit) = Serves r.units unit 0 width
SourceIsWithin r left width (source.Query unit handed) = Serves r.units unit (length handed) width × EachIsWithin r [] handed
SourceIsWithin r left width (source.With unit handed) = Serves r.units unit (length handed) width × EachIsWithin r [] handed
SourceIsWithin r left width (source.Recursive unit handed) = Serves r.units unit (length handed) width × EachIsWithin r [] handed
SourceIsWithin r left width source.Queue = ⊤

-- an ON names the items up to its own
abbrev pub ItemsAreWithin : Reach → List ℕ → List BoundItem → Type 0
ItemsAreWithin r left [] = ⊤
ItemsAreWithin r left (item ∷ items) =
    SourceIsWithin r left (width_of item) item.source × EachIsWithin r (left ++ width_of item ∷ []) item.ons × ItemsAreWithin r (left ++ width_of item ∷ []) items

-- ---- a SELECT

abbrev pub aggregates_of : Option BoundGroups → List BoundAggregate
aggregates_of None = []
aggregates_of (Some g) = g.aggregates

-- in front of the groups, where no aggregate may stand, and behind them
abbrev pub in_front : List BoundUnit → ℕ → Reach
in_front units arguments = record { units = units; arguments = arguments; aggregates = 0 }

abbrev pub behind : List BoundUnit → ℕ → BoundCore → Reach
behind units arguments core = record { units = units; arguments = arguments; aggregates = length (aggregates_of core.groups) }

pub record AggregateIsWithin (r : Reach) (from : List ℕ) (a : BoundAggregate) : Type 0 where
  pub arguments : EachIsWithin r from a.arguments
  pub filter : IsWithinIfThere r from a.filter

pub record AreGroupsWithin (front back : Reach) (from : List ℕ) (g : BoundGroups) : Type 0 where
  pub keys : AllByRecursion (λ (k : BoundKey). IsWithin front from k.expr) g.keys
  pub aggregates : AllByRecursion (AggregateIsWithin front from) g.aggregates
  pub having : EachIsWithin back from g.having

abbrev pub GroupsAreWithin : Reach → Reach → List ℕ → Option BoundGroups → Type 0
GroupsAreWithin front back from None = ⊤
GroupsAreWithin front back from (Some g) = AreGroupsWithin front back from g

pub record CoreIsWithin (units : List BoundUnit) (arguments : ℕ) (core : BoundCore) : Type 0 where
  pub items : ItemsAreWithin (in_front units arguments) [] core.items
  pub conjuncts : EachIsWithin (in_front units arguments) (widths_of core.items) core.conjuncts
  pub groups : GroupsAreWithin (in_front units arguments) (behind units arguments core) (widths_of core.items) core.groups
  pub results : EachIsWithin (behind units arguments core) (widths_of core.items) core.results

-- ---- a query

abbrev pub PartIsWithin : List BoundUnit → ℕ → BoundPart → Type 0
PartIsWithin units arguments (Select core) = CoreIsWithin units arguments core
PartIsWithin units arguments (Values rows) = AllByRecursion (EachIsWithin (in_front units arguments) []) rows

-- a term of ORDER BY is one of so many results, or an expression behind the groups of the only SELECT
abbrev pub KeyIsWithin : List BoundUnit → ℕ → BoundPart → ℕ → TermKey → Type 0
KeyIsWithin units arguments part results (Result place) = place < results
KeyIsWithin units arguments (Select core) results (Expression a) = IsWithin (behind units arguments core) (widths_of core.items) a
KeyIsWithin units arguments (Values rows) results (Expression a) = ⊥

pub record IsQueryWithin (units : List BoundUnit) (q : BoundQuery) : Type 0 where
  pub tables : AllByRecursion (λ table. table < length units) q.tables
  pub first : PartIsWithin units q.arguments q.first
  pub others : AllByRecursion (λ (c : BoundCompound). PartIsWithin units q.arguments c.part) q.others
  pub order : AllByRecursion (λ (t : BoundTerm). KeyIsWithin units q.arguments q.first (length q.columns) t.key) q.order
  pub limit : IsWithinIfThere (in_front units q.arguments) [] q.limit
  pub offset : IsWithinIfThere (in_front units q.arguments) [] q.offset

pub record IsRecursionWithin (units : List BoundUnit) (r : BoundRecursion) : Type 0 where
  pub tables : AllByRecursion (λ table. table < length units) r.tables
  pub first : PartIsWithin units r.arguments r.first
  pub others : AllByRecursion (λ (c : BoundCompound). PartIsWithin units r.arguments c.part) r.others
  pub part : CoreIsWithin units r.arguments r.part
  pub limit : IsWithinIfThere (in_front units r.arguments) [] r.limit
  pub offset : IsWithinIfThere (in_front units r.arguments) [] r.offset

abbrev pub UnitIsWithin : List BoundUnit → BoundUnit → Type 0
UnitIsWithin units (Queried q) = IsQueryWithin units q
UnitIsWithin units (Recursed r) = IsRecursionWithin units r

-- ---- units

-- each names only units in front of it, these before them all
abbrev pub AreInOrderBehind : List BoundUnit → List BoundUnit → Type 0
AreInOrderBehind before [] = ⊤
AreInOrderBehind before (u ∷ units) = UnitIsWithin before u × AreInOrderBehind (before ++ u ∷ []) units

abbrev pub AreInOrder : List BoundUnit → Type 0
AreInOrder units = AreInOrderBehind [] units

-- the same units, and behind them others that are in order
abbrev pub AddsUnits : List BoundUnit → List BoundUnit → Type 0
AddsUnits units all = (more : List BoundUnit) × (all ≡ units ++ more) × AreInOrderBehind units more
