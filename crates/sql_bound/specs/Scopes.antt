-- What names are looked up in: the FROMs that a name may mean, nearest first, and what is gathered on the way.
use Rattle.std.specs.Prelude.{ℕ, suc, zero, ◌+◌, nat_eq, Bool, true, false, not, ◌&&◌, List, [], ◌∷◌, ◌++◌, filter, length, position, ℤ, Option, Some, None, Ok, Err, codes, if◌then◌else◌}
use Rattle.std.specs.List.{find, flat_map, list_any}
use Rattle.std.specs.Option.{option_to_list}
use Rattle.eng_text.specs.Texts.{folded}
use Rattle.eng_entry.specs.Entries.{Entries}
use Rattle.eng_entry.specs.Names.{is_same_name}
use Rattle.eng_value.specs.declared.cause.Cause.TheVariants.{Ambiguous}
use Rattle.eng_value.specs.declared.modules.ModColumn.{ModColumn}
use Rattle.sql_tree.specs.declared.query.Query.{Query}
use Rattle.sql_words.specs.Names.{is_named_in}
use Rattle.bound_tree.specs.Exprs as e
use Rattle.bound_tree.specs.Exprs.{BoundExpr}
use Rattle.bound_tree.specs.Same.{same_expr}
use Rattle.bound_tree.specs.declared.units.BoundUnit.{BoundUnit}
use Rattle.sql_bound.specs.Refusals.{Checked}
use Rattle.sql_bound.specs.declared.scopes.Allowed.{Allowed}
use Rattle.sql_bound.specs.declared.scopes.Asked.{Asked}
use Rattle.sql_bound.specs.declared.scopes.Need.{Need}
use Rattle.sql_bound.specs.declared.scopes.Operand.{Operand}
use Rattle.sql_bound.specs.declared.scopes.ScopeColumn.{ScopeColumn}
use Rattle.sql_bound.specs.declared.scopes.ScopeItem.{ScopeItem}
use Rattle.sql_bound.specs.declared.scopes.Sight.{Sight}
use Rattle.sql_bound.specs.declared.scopes.Standing.TheVariants.{Nowhere}
use Rattle.sql_bound.specs.declared.scopes.Standing.{Standing}
use Rattle.sql_bound.specs.declared.scopes.WithEntry.{WithEntry}
use Rattle.sql_bound.specs.declared.scopes.Work.{Work}

-- ---- what hosts tell of their names

-- a function's arity, -1 for any number, and whether it may ask; an aggregate's arity; a collation's place among those of the hosts; whether a module's name stands for a table, and whether its tables can be written; the columns of a module's table, where they are told; whether an open transaction has a savepoint of this name; and whether triggers may fire while they run
pub record Facts : Type 0 where
  pub scalar : List ℕ → Option (ℤ × Bool)
  pub aggregate : List ℕ → Option ℤ
  pub collation : List ℕ → Option ℕ
  pub host_module : List ℕ → Option (Bool × Bool)
  pub columns : List ℕ → ℕ → Option (List ModColumn)
  pub savepoint : List ℕ → Bool
  pub recursive_triggers : Bool
  pub rowids : Bool

-- what binding goes by
pub record Around : Type 0 where
  pub catalog : Entries
  pub facts : Facts

-- ---- columns as names find them

-- a FROM
abbrev pub Level : Type 0
Level = List ScopeItem

abbrev pub is_rowid_name : List ℕ → Bool
is_rowid_name name = is_named_in (codes "rowid" ∷ codes "oid" ∷ codes "_rowid_" ∷ []) name

abbrev pub has_column : List ℕ → ScopeItem → Bool
has_column name item = list_any (λ (c : ScopeColumn). is_same_name c.name name) item.columns

-- the rowid by one of its names, unless a column has the name
abbrev pub rowid_named : List ℕ → ScopeItem → List ScopeColumn
rowid_named name item = if is_rowid_name name && not (has_column name item) then option_to_list item.rowid else []

abbrev pub columns_named : List ℕ → ScopeItem → List ScopeColumn
columns_named name item = filter (λ (c : ScopeColumn). is_same_name c.name name) item.columns

abbrev pub is_shown : ScopeColumn → Bool
is_shown c = not c.hidden

abbrev pub unjoined : List ScopeColumn → List ScopeColumn
unjoined columns = filter (λ (c : ScopeColumn). not c.joined) columns

-- what a name alone may mean in an item
abbrev pub bare_in : List ℕ → ScopeItem → List ScopeColumn
bare_in name item = if item.bare then unjoined (columns_named name item) ++ rowid_named name item else []

abbrev pub is_called : List ℕ → Option (List ℕ) → Bool
is_called table None = false
is_called table (Some name) = is_same_name name table

-- what `table.name` may mean in an item
abbrev pub called_in : List ℕ → List ℕ → ScopeItem → List ScopeColumn
called_in table name item = if is_called table item.name then columns_named name item ++ rowid_named name item else []

-- ---- the nearest FROM that has a column of the name; two there are ambiguous

-- a column by its name as declared, a rowid by the name that is written: it is ambiguous over any two tables, also where USING joins the columns that are their rowids
abbrev pub name_of_ambiguous : List ℕ → ScopeColumn → List ℕ
name_of_ambiguous name c = if is_same_name c.name name then c.name else folded name

-- columns that USING or NATURAL joins count as one: those that are joined with one in front are no other columns
abbrev pub counted_once : List ScopeColumn → List ScopeColumn
counted_once [] = []
counted_once (c ∷ cs) = c ∷ unjoined cs

abbrev pub nearest_of : List ℕ → ℕ → List ScopeColumn → Checked (Option Sight) → Checked (Option Sight)
nearest_of name up [] further = further
nearest_of name up (c ∷ []) further = Ok (Some (record { up = up; column = c }))
nearest_of name up (c ∷ d ∷ others) further = Err (Ambiguous (name_of_ambiguous name c))

abbrev pub nearest_from : ℕ → List ℕ → (Level → List ScopeColumn) → List Level → Checked (Option Sight)
nearest_from up name candidates [] = Ok None
nearest_from up name candidates (level ∷ levels) = nearest_of name up (candidates level) (nearest_from (suc up) name candidates levels)

abbrev pub nearest : List ℕ → (ScopeItem → List ScopeColumn) → List Level → Checked (Option Sight)
nearest name candidates levels = nearest_from 0 name (λ level. counted_once (flat_map candidates level)) levels

-- ---- what is gathered: the units of the statement so far, what the query needs from further out, and the aggregates of the core

-- nothing is needed yet
abbrev pub begun : List BoundUnit → Work
begun units = record { units = units; needs = []; aggregates = [] }

abbrev pub Answer : Type 0 → Type 0
Answer A = Checked (A × Work)

abbrev pub is_need : Need → Need → Bool
is_need a b = nat_eq a.up b.up && same_expr a.tree b.tree

abbrev pub argument_at : Option ℕ → Need → Work → BoundExpr × Work
argument_at (Some place) n w = (e.Argument place, w)
argument_at None n w = (e.Argument (length w.needs), record w { needs = w.needs ++ n ∷ [] })

-- the argument that brings it, found or new
abbrev pub needed : Need → Work → BoundExpr × Work
needed n w = argument_at (position (is_need n) w.needs) n w

-- a column of the own FROM, or an argument
abbrev pub brought : ℕ → BoundExpr → Work → BoundExpr × Work
brought zero tree w = (tree, w)
brought (suc up) tree w = needed (record { up = up; tree = tree }) w

-- what is handed over to a query that needs it
abbrev pub handed : List Need → Work → List BoundExpr × Work
handed [] w = ([], w)
handed (n ∷ needs) w = let first = brought n.up n.tree w in let rest = handed needs first.1 in (first.0 ∷ rest.0, rest.1)

-- ---- queries as they are asked

abbrev pub UnitsAnswer : Type 0 → Type 0
UnitsAnswer A = Checked (A × List BoundUnit)

-- how deep queries may stand, views opened: at the bottom none may be entered, and above it the query of a view, by its name and text, is bound one level deeper
pub data Depth : Type 0 where
  Bottom : Depth
  Deeper : (List ℕ → List ℕ → Query → List BoundUnit → UnitsAnswer Asked) → Depth → Depth

-- ---- WITH tables

abbrev pub with_named : List ℕ → List WithEntry → Option WithEntry
with_named name entries = find (λ (t : WithEntry). is_same_name t.name name) entries

-- seen from a place with more FROMs around it
abbrev pub further : ℕ → Need → Need
further distance n = record n { up = n.up + distance }

-- ---- what an expression is bound in

-- all that may stand in a statement
abbrev pub in_statement : Allowed
in_statement = record { hosts = true; queries = true; columns = true; parameters = true; raises = false }

-- what a query is bound in: the text, the view or trigger whose text it is, what binding goes by, how deep queries may stand, the FROMs around it, nearest first, the WITH tables that it sees, latest first, and what may stand in it
pub record Outer : Type 0 where
  pub text : List ℕ
  pub within : Option (List ℕ)
  pub around : Around
  pub depth : Depth
  pub levels : List Level
  pub tables : List WithEntry
  pub allowed : Allowed

-- a result that has a name, and what it comes to where the name stands, with aggregates as there
pub record Alias : Type 0 where
  pub name : List ℕ
  pub shown : Standing → Work → Answer Operand

-- the first of the levels is the own FROM
pub record Scope : Type 0 where
  pub outer : Outer
  pub aliases : List Alias
  pub aggregates : Standing

-- with a FROM more around it
abbrev pub inside : Level → Outer → Outer
inside level o = record o { levels = level ∷ o.levels }

-- over a FROM, without names of results and aggregates
abbrev pub scope_over : Level → Outer → Scope
scope_over level o = record { outer = inside level o; aliases = []; aggregates = Nowhere }
