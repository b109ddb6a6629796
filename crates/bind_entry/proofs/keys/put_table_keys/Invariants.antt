use Rattle.std.proofs.Common.{◌≡◌, ◌++◌, take}
use Rattle.std.specs.List.{flat_map}
use Rattle.sql_bound.specs.Declarations.{table_key}
use Rattle.sql_bound.specs.HostFacts.{facts_of}
use Rattle.bind_entry.proofs.keys.put_table_keys.Given as goal

abbrev pub invariant-loop-constraint : goal.invariant-loop-constraint
invariant-loop-constraint l = l.keys ≡ l.fn.keys ++ flat_map (table_key (facts_of l.facts) l.text l.rowid l.columns) (take l.constraint-index l.constraints)
