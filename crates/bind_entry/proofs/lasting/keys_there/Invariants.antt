use Rattle.std.proofs.Common.{◌≡◌, drop}
use Rattle.std.specs.List.{flat_map}
use Rattle.sql_bound.specs.HostFacts.{facts_of}
use Rattle.sql_bound.specs.Lasting.{all_there, of_key}
use Rattle.bind_entry.proofs.lasting.keys_there.Given as goal

abbrev pub invariant-loop-constraint : goal.invariant-loop-constraint
invariant-loop-constraint l = all_there (facts_of l.facts) l.text (flat_map of_key l.constraints) ≡ all_there (facts_of l.facts) l.text (flat_map of_key (drop l.constraint-index l.constraints))
