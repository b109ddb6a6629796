use Rattle.std.proofs.Common.{◌≡◌, ◌++◌, drop}
use Rattle.sql_bound.specs.Declarations.{index_parts}
use Rattle.sql_bound.specs.HostFacts.{facts_of}
use Rattle.bind_entry.proofs.keys.index_parts.Given as goal

abbrev pub invariant-loop-part : goal.invariant-loop-part
invariant-loop-part l =
    index_parts (facts_of l.facts) l.text l.columns l.written ≡ l.parts ++ index_parts (facts_of l.facts) l.text l.columns (drop l.part-index l.written)
