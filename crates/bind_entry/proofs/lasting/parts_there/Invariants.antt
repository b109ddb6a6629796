use Rattle.std.proofs.Common.{◌≡◌, drop}
use Rattle.std.specs.List.{flat_map}
use Rattle.sql_bound.specs.HostFacts.{facts_of}
use Rattle.sql_bound.specs.Lasting.{all_there, of_parts}
use Rattle.bind_entry.proofs.lasting.parts_there.Given as goal

abbrev pub invariant-loop-part : goal.invariant-loop-part
invariant-loop-part l = all_there (facts_of l.facts) l.text (of_parts l.parts) ≡ all_there (facts_of l.facts) l.text (of_parts (drop l.part-index l.parts))
