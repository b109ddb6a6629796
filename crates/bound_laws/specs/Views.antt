-- A view where it is used, beside the query that its text holds.
use Rattle.std.specs.Prelude.{ℕ, suc, nat_eq, Bool, true, List, [], ◌∷◌, ◌++◌, map, length, Some, None}
use Rattle.eng_entry.specs.declared.entry.Entry.{Entry}
use Rattle.sql_tree.specs.declared.query.Query.{Query}
use Rattle.sql_tree.specs.declared.statement.ViewDefinition.{ViewDefinition}
use Rattle.sql_words.specs.Spelled.{name_at}
use Rattle.bound_tree.specs.declared.units.BoundColumn.{BoundColumn}
use Rattle.bound_tree.specs.declared.units.BoundSource.TheVariants as bound_source
use Rattle.bound_tree.specs.declared.units.BoundUnit.{BoundUnit}
use Rattle.sql_bound.specs.Carriers.{Derived}
use Rattle.sql_bound.specs.Froms.{nothing_found, of_source}
use Rattle.sql_bound.specs.Scopes.{Answer, Around, Depth, Outer, UnitsAnswer, in_statement}
use Rattle.sql_bound.specs.Trees.{depth_of, of_query, outer_at, within}
use Rattle.sql_bound.specs.declared.froms.Sourced.{Sourced}
use Rattle.sql_bound.specs.declared.scopes.Asked.{Asked}
use Rattle.sql_bound.specs.declared.scopes.WithEntry.{WithEntry}
use Rattle.sql_bound.specs.declared.scopes.Work.{Work}

-- with an empty FROM beyond all that are around, which WITH tables count
abbrev pub one_further : WithEntry → WithEntry
one_further t = record t { around = suc t.around }

abbrev pub beyond : Outer → Outer
beyond o = record o { levels = o.levels ++ [] ∷ []; tables = map one_further o.tables }

-- so many levels of queries
abbrev pub levels_deep : Around → ℕ → Depth
levels_deep around depth = depth_of (λ text. of_query) around depth

-- in a view's own text, so deep, with no FROM and no WITH table around
abbrev pub in_view : Around → ℕ → List ℕ → List ℕ → Outer
in_view around depth name text = within name (outer_at around (levels_deep around depth) text [] in_statement)

-- how a query that is entered enters views so deep
abbrev pub views_at : Around → ℕ → List ℕ → List ℕ → Query → List BoundUnit → UnitsAnswer Asked
views_at around depth name text q units = (of_query q).bound (in_view around depth name text) units

-- what a FROM makes of the view's query in brackets there
abbrev pub in_brackets : Around → ℕ → Entry → ViewDefinition → Work → Answer Sourced
in_brackets around depth entry v w =
    of_source (record { outer = in_view around depth entry.name entry.text; views = views_at around depth }) None (Derived (of_query v.query)) nothing_found w

-- the names that are written behind the view's own, if there are any
abbrev pub names_written : Entry → ViewDefinition → List (List ℕ)
names_written entry v = map (name_at entry.text) v.columns

abbrev pub names_fit : List (List ℕ) → List BoundColumn → Bool
names_fit [] columns = true
names_fit (n ∷ ns) columns = nat_eq (length (n ∷ ns)) (length columns)

-- columns by other names
abbrev pub called : List (List ℕ) → List BoundColumn → List BoundColumn
called [] columns = columns
called (n ∷ ns) [] = []
called (n ∷ ns) (c ∷ columns) = record c { name = n } ∷ called ns columns

-- the same rows and columns by the view's names, told as the view's
abbrev pub as_view : Entry → ViewDefinition → ℕ → Sourced → Sourced
as_view entry v unit s = record s { name = Some entry.name; source = bound_source.View entry.name unit; columns = called (names_written entry v) s.columns }
