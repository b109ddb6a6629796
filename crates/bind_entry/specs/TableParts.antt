-- What code gives of a declared table: without its expressions, which stay in the syntax tree.
use Rattle.std.specs.Prelude.{ℕ, List, Option}
use Rattle.bind_entry.specs.declared.tables.Declared.{Declared}
use Rattle.bound_tree.specs.declared.units.BoundColumn.{BoundColumn}
use Rattle.sql_tree.specs.declared.statement.ColumnDefinition.{ColumnDefinition}
use Rattle.sql_bound.specs.Declarations.{DeclaredTable, bound_columns, declared_column}
use Rattle.sql_bound.specs.Scopes.{Facts}

abbrev pub column_of : Facts → List ℕ → ColumnDefinition → BoundColumn
column_of facts text d = (declared_column facts text d).column

abbrev pub declared_parts : DeclaredTable → Declared
declared_parts t = record { columns = bound_columns t.columns; rowid = t.rowid; keys = t.keys }
