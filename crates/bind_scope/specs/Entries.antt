-- WITH tables as they are seen, by how many FROMs there are around the query in whose WITH they are written.
use Rattle.std.specs.Prelude.{ℕ, List, length, slice_get}
use Rattle.sql_bound.specs.Withs.{is_recursion}
use Rattle.bound_tree.specs.declared.units.BoundUnit.{BoundUnit}
use Rattle.sql_bound.specs.declared.scopes.Asked.{Asked}
use Rattle.sql_bound.specs.declared.scopes.WithEntry.{WithEntry}
use Rattle.sql_bound.specs.declared.scopes.WithMeaning.TheVariants.{Bound, Itself}

-- that of a query that was bound (table_entry of Withs.antt)
abbrev pub entry_of : List ℕ → ℕ → Asked × List BoundUnit → WithEntry
entry_of name around a = record { name = name; around = around; meaning = Bound a.0.unit (is_recursion (slice_get a.1 a.0.unit)) a.0.needs a.0.columns }

-- the one that is being written
abbrev pub itself_of : List ℕ → ℕ → WithEntry
itself_of name around = record { name = name; around = around; meaning = Itself }
