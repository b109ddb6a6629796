-- Columns of queries.
use Rattle.std.specs.Prelude.{ℕ, List}
use Rattle.sql_bound.specs.declared.scopes.ResultColumn.{ResultColumn}

-- by another name
abbrev pub column_called : List ℕ → ResultColumn → ResultColumn
column_called name c = record c { name = name }
