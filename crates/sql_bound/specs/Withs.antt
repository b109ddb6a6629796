-- WITH: each table is bound where it is written, used or not, and sees itself and those in front of it, so that of two of one name the second sees itself alone (WITH Clause).
use Rattle.std.specs.Prelude.{ℕ, Bool, true, false, List, [], ◌∷◌, ◌++◌, map, length, slice_get, Option, Some, Ok}
use Rattle.sql_words.specs.Refusals.{◌>>=◌}
use Rattle.sql_words.specs.Spelled.{name_at}
use Rattle.bound_tree.specs.declared.units.BoundUnit.TheVariants.{Recursed}
use Rattle.bound_tree.specs.declared.units.BoundUnit.{BoundUnit}
use Rattle.sql_bound.specs.Carriers.{TableParts}
use Rattle.sql_bound.specs.Froms.{Inside, beside_from}
use Rattle.sql_bound.specs.Limits.{within_columns}
use Rattle.sql_bound.specs.Scopes.{UnitsAnswer}
use Rattle.sql_bound.specs.declared.scopes.Asked.{Asked}
use Rattle.sql_bound.specs.declared.scopes.WithEntry.{WithEntry}
use Rattle.sql_bound.specs.declared.scopes.WithMeaning.TheVariants.{Bound}

abbrev pub is_recursion : Option BoundUnit → Bool
is_recursion (Some (Recursed r)) = true
is_recursion other = false

abbrev pub table_entry : Inside → List ℕ → Asked × List BoundUnit → WithEntry
table_entry i name a =
    record { name = name; around = length i.outer.levels; meaning = Bound a.0.unit (is_recursion (slice_get a.1 a.0.unit)) a.0.needs a.0.columns }

abbrev pub seeing : WithEntry → Inside → Inside
seeing t i = record i { outer = record i.outer { tables = t ∷ i.outer.tables } }

abbrev pub table_asked : Inside → TableParts → List BoundUnit → UnitsAnswer Asked
table_asked i t units =
    within_columns t.columns >>= λ cs. t.query.as_table (name_at i.outer.text t.name) (map (name_at i.outer.text) cs) (beside_from i.outer) units

abbrev pub tables_bound : Inside → List ℕ → List TableParts → List BoundUnit → UnitsAnswer (Inside × List ℕ)
tables_bound i so_far [] units = Ok ((i, so_far), units)
tables_bound i so_far (t ∷ ts) units =
    table_asked i t units >>= λ a. tables_bound (seeing (table_entry i (name_at i.outer.text t.name) a) i) (so_far ++ a.0.unit ∷ []) ts a.1
