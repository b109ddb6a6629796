-- What is known of what names are looked up in, and of what is gathered, while a statement is bound.
use Rattle.std.proofs.Common.{◌≡◌, ◌≤◌, ℕ, zero, suc, List, [], ◌∷◌, ◌++◌, length}
use Rattle.std.specs.Bool.{⊤}
use Rattle.std.specs.List.{AllByRecursion}
use Rattle.sql_tree.specs.declared.query.Query.{Query}
use Rattle.bound_tree.specs.Exprs as e
use Rattle.bound_tree.specs.Exprs.{BoundExpr}
use Rattle.bound_tree.specs.declared.units.BoundAggregate.{BoundAggregate}
use Rattle.bound_tree.specs.declared.units.BoundUnit.{BoundUnit}
use Rattle.sql_bound.specs.Carriers.{Binding, QueryBinding}
use Rattle.sql_bound.specs.Froms.{Inside}
use Rattle.sql_bound.specs.Scopes.{Alias, Bottom, Deeper, Depth, Level, Outer, Scope, UnitsAnswer}
use Rattle.sql_bound.specs.declared.scopes.Asked.{Asked}
use Rattle.sql_bound.specs.declared.scopes.Need.{Need}
use Rattle.sql_bound.specs.declared.scopes.Operand.{Operand}
use Rattle.sql_bound.specs.declared.scopes.ScopeColumn.{ScopeColumn}
use Rattle.sql_bound.specs.declared.scopes.ScopeItem.{ScopeItem}
use Rattle.sql_bound.specs.declared.scopes.Standing.TheVariants.{Nowhere, Taken}
use Rattle.sql_bound.specs.declared.scopes.Standing.{Standing}
use Rattle.sql_bound.specs.declared.scopes.WithEntry.{WithEntry}
use Rattle.sql_bound.specs.declared.scopes.WithMeaning.TheVariants.{Bound, Itself}
use Rattle.sql_bound.specs.declared.scopes.WithMeaning.{WithMeaning}
use Rattle.sql_bound.specs.declared.scopes.Work.{Work}
use Rattle.bound_laws.specs.Order.{AddsUnits, AggregateIsWithin}
use Rattle.bound_laws.specs.Reach.{EachIsWithin, HasColumn, HasItem, IsWithin, Reach, Serves}
use Rattle.bound_laws.proofs.Lists.{BeginsWith, IfThere}
use Rattle.bound_laws.proofs.Triples.{Gives}

-- ---- columns: a FROM is told by the widths of its items

abbrev pub From : Type 0
From = List ℕ

-- that many further out; beyond the last there is nothing
abbrev pub from_at : List From → ℕ → From
from_at [] up = []
from_at (from ∷ outers) zero = from
from_at (from ∷ outers) (suc up) = from_at outers up

-- a column or the rowid of an item of the FROM
abbrev pub IsColumnOf : From → BoundExpr → Type 0
IsColumnOf from (e.Column item place) = HasColumn from item place
IsColumnOf from (e.Rowid item) = HasItem from item
IsColumnOf from other = ⊥

abbrev pub ColumnFits : From → ScopeColumn → Type 0
ColumnFits from c = IsColumnOf from c.tree

pub record ItemFits (from : From) (item : ScopeItem) : Type 0 where
  pub columns : AllByRecursion (ColumnFits from) item.columns
  pub rowid : IfThere (ColumnFits from) item.rowid

abbrev pub LevelFits : From → Level → Type 0
LevelFits from level = AllByRecursion (ItemFits from) level

-- FROM by FROM
abbrev pub LevelsFit : List From → List Level → Type 0
LevelsFit [] [] = ⊤
LevelsFit (from ∷ outers) (level ∷ levels) = LevelFits from level × LevelsFit outers levels
LevelsFit froms levels = ⊥

abbrev pub NeedFits : List From → Need → Type 0
NeedFits outers n = IsColumnOf (from_at outers n.up) n.tree

abbrev pub NeedsFit : List From → List Need → Type 0
NeedsFit outers needs = AllByRecursion (NeedFits outers) needs

-- ---- what a query comes to

-- it adds units in order, and its own takes what it needs and gives its columns
pub record AskedFits (units : List BoundUnit) (outers : List From) (a : Asked × List BoundUnit) : Type 0 where
  pub adds : AddsUnits units a.1
  pub serves : Serves a.1 a.0.unit (length a.0.needs) (length a.0.columns)
  pub needs : NeedsFit outers a.0.needs

abbrev pub ViewsFit : (List ℕ → List ℕ → Query → List BoundUnit → UnitsAnswer Asked) → Type 0
ViewsFit views = (name text : List ℕ) (q : Query) (units : List BoundUnit) → Gives (AskedFits units []) (views name text q units)

abbrev pub DepthFits : Depth → Type 0
DepthFits Bottom = ⊤
DepthFits (Deeper views below) = ViewsFit views × DepthFits below

-- ---- WITH tables

-- with so many FROMs around the query in whose WITH it is written, beside whose own it stands
pub record NeededFits (around : ℕ) (outers : List From) (needs : List Need) : Type 0 where
  pub before : List From
  pub after : List From
  pub all : outers ≡ before ++ after
  pub count : length after ≡ around
  pub fit : NeedsFit ([] ∷ after) needs

pub record BoundFits (units : List BoundUnit) (outers : List From) (around unit : ℕ) (needs : List Need) (width : ℕ) : Type 0 where
  pub serves : Serves units unit (length needs) width
  pub fits : NeededFits around outers needs

abbrev pub MeaningFits : List BoundUnit → List From → ℕ → WithMeaning → Type 0
MeaningFits units outers around Itself = ⊤
MeaningFits units outers around (Bound unit recursive needs columns) = BoundFits units outers around unit needs (length columns)

abbrev pub EntryFits : List BoundUnit → List From → WithEntry → Type 0
EntryFits units outers t = MeaningFits units outers t.around t.meaning

-- ---- what a query is bound in

pub record OuterFits (units : List BoundUnit) (outers : List From) (o : Outer) : Type 0 where
  pub levels : LevelsFit outers o.levels
  pub tables : AllByRecursion (EntryFits units outers) o.tables
  pub depth : DepthFits o.depth

pub record InsideFits (units : List BoundUnit) (outers : List From) (i : Inside) : Type 0 where
  pub outer : OuterFits units outers i.outer
  pub views : ViewsFit i.views

-- ---- what is gathered

abbrev pub count_in : Standing → Work → ℕ
count_in Taken w = length w.aggregates
count_in Nowhere w = 0

-- what may be named at the end is at least what may be named now
pub record Reached (standing : Standing) (w : Work) (r : Reach) : Type 0 where
  pub units : BeginsWith w.units r.units
  pub arguments : length w.needs ≤ r.arguments
  pub aggregates : count_in standing w ≤ r.aggregates

-- so a tree stays within it
abbrev pub Stays : Standing → From → Work → BoundExpr → Type 0
Stays standing own w x = (r : Reach) → Reached standing w r → IsWithin r own x

abbrev pub AllStay : Standing → From → Work → List BoundExpr → Type 0
AllStay standing own w xs = (r : Reach) → Reached standing w r → EachIsWithin r own xs

abbrev pub AggregateStays : From → Work → BoundAggregate → Type 0
AggregateStays own w a = (r : Reach) → Reached Nowhere w r → AggregateIsWithin r own a

-- where an expression stands: the units that there were, the own FROM and those around
pub record Here : Type 0 where
  pub units : List BoundUnit
  pub own : From
  pub outers : List From

pub record WorkFits (h : Here) (w : Work) : Type 0 where
  pub begins : BeginsWith h.units w.units
  pub needs : NeedsFit h.outers w.needs
  pub aggregates : AllByRecursion (AggregateStays h.own w) w.aggregates

pub record Grows (w v : Work) : Type 0 where
  pub units : AddsUnits w.units v.units
  pub needs : length w.needs ≤ length v.needs
  pub aggregates : length w.aggregates ≤ length v.aggregates

-- from w on to what it comes to, of which this holds
pub record Steps {A : Type 0} (h : Here) (T : A → Work → Type 0) (w : Work) (r : A × Work) : Type 0 where
  pub fits : WorkFits h r.1
  pub grows : Grows w r.1
  pub holds : T r.0 r.1

abbrev pub TreeStays : Standing → From → Operand → Work → Type 0
TreeStays standing own a v = Stays standing own v a.tree

-- ---- what an expression is bound in

abbrev pub AliasFits : Here → Alias → Type 0
AliasFits h a = (standing : Standing) (w : Work) → WorkFits h w → Gives (Steps h (TreeStays standing h.own) w) (a.shown standing w)

pub record ScopeFits (h : Here) (s : Scope) : Type 0 where
  pub outer : OuterFits h.units (h.own ∷ h.outers) s.outer
  pub aliases : AllByRecursion (AliasFits h) s.aliases

abbrev pub BindsIn : Here → Binding → Type 0
BindsIn h b = (s : Scope) → ScopeFits h s → (w : Work) → WorkFits h w → Gives (Steps h (TreeStays s.aggregates h.own) w) (b s w)

abbrev pub Binds : Binding → Type 0
Binds b = (h : Here) → BindsIn h b

abbrev pub Asks : QueryBinding → Type 0
Asks b = (units : List BoundUnit) (outers : List From) (o : Outer) → OuterFits units outers o → (now : List BoundUnit) → BeginsWith units now → Gives (AskedFits now outers) (b o now)
