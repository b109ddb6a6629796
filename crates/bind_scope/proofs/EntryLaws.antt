-- WITH tables are those of the definition.
use Rattle.std.proofs.Common.{◌≡◌, ◌∷◌, ℕ, List, length, refl}
use Rattle.bound_tree.specs.declared.units.BoundUnit.{BoundUnit}
use Rattle.sql_bound.specs.Froms.{Inside}
use Rattle.sql_bound.specs.Recursions.{naming_itself}
use Rattle.sql_bound.specs.Scopes.{Outer}
use Rattle.sql_bound.specs.Withs.{table_entry}
use Rattle.sql_bound.specs.declared.scopes.Asked.{Asked}
use Rattle.bind_scope.specs.Entries.{entry_of, itself_of}

pub table_entry-is : (i : Inside) (name : List ℕ) (a : Asked × List BoundUnit) → table_entry i name a ≡ entry_of name (length i.outer.levels) a
table_entry-is i name a = refl

pub naming_itself-is : (name : List ℕ) (o : Outer) → (naming_itself name o).tables ≡ itself_of name (length o.levels) ∷ o.tables
naming_itself-is name o = refl
