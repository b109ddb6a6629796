use Rattle.std.proofs.Common.{◌≡◌, ◌++◌, drop}
use Rattle.bound_actions.specs.Queries.{tables_pieces}
use Rattle.bound_actions.proofs.queries.put_tables.Given as goal

abbrev pub invariant-loop-table : goal.invariant-loop-table
invariant-loop-table l = l.fn.out ++ tables_pieces l.units l.tables ≡ l.out ++ tables_pieces l.units (drop l.table-index l.tables)
