use Rattle.std.proofs.Common.{◌≡◌, ◌++◌, take}
use Rattle.std.specs.List.{flat_map}
use Rattle.sql_bound.specs.Declarations.{created_index}
use Rattle.sql_bound.specs.HostFacts.{facts_of}
use Rattle.bind_entry.proofs.indexes.put_created_indexes.Given as goal

abbrev pub invariant-loop-entry : goal.invariant-loop-entry
invariant-loop-entry l = l.indexes ≡ l.fn.indexes ++ flat_map (created_index (facts_of l.facts) l.table l.columns) (take l.entry-index l.entries)
