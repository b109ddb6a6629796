use Rattle.std.proofs.Common.{◌≡◌, map, take}
use Rattle.sql_bound.specs.HostFacts.{facts_of}
use Rattle.bind_entry.specs.TableParts.{column_of}
use Rattle.bind_entry.proofs.columns.declared_columns.Given as goal

abbrev pub invariant-loop-column : goal.invariant-loop-column
invariant-loop-column l = l.found ≡ map (column_of (facts_of l.facts) l.text) (take l.column-index l.columns)
