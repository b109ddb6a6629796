use Rattle.std.proofs.Common.{◌≡◌, drop}
use Rattle.sql_bound.specs.HostFacts.{facts_of}
use Rattle.sql_bound.specs.Lasting.{indexes_there}
use Rattle.bind_entry.proofs.lasting.indexes_there.Given as goal

abbrev pub invariant-loop-entry : goal.invariant-loop-entry
invariant-loop-entry l = indexes_there (facts_of l.facts) l.table l.entries ≡ indexes_there (facts_of l.facts) l.table (drop l.entry-index l.entries)
