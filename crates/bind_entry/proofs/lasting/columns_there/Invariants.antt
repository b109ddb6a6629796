use Rattle.std.proofs.Common.{◌≡◌, drop}
use Rattle.std.specs.List.{flat_map}
use Rattle.sql_bound.specs.HostFacts.{facts_of}
use Rattle.sql_bound.specs.Lasting.{all_there, of_column}
use Rattle.bind_entry.proofs.lasting.columns_there.Given as goal

abbrev pub invariant-loop-column : goal.invariant-loop-column
invariant-loop-column l = all_there (facts_of l.facts) l.text (flat_map of_column l.columns) ≡ all_there (facts_of l.facts) l.text (flat_map of_column (drop l.column-index l.columns))
