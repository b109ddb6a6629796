use Rattle.std.proofs.Common.{◌≡◌, map, take}
use Rattle.sql_meaning.specs.Declarations.{column_of}
use Rattle.bind_stmt.proofs.creating.declared_columns.Given as goal

abbrev pub invariant-loop-definition : goal.invariant-loop-definition
invariant-loop-definition l = l.columns ≡ map (column_of l.text) (take l.definition-index l.definitions)
