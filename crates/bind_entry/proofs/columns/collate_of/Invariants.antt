use Rattle.std.proofs.Common.{◌≡◌, drop}
use Rattle.sql_bound.specs.Declarations.{collate_of}
use Rattle.sql_bound.specs.HostFacts.{facts_of}
use Rattle.sql_words.specs.Refusals.{or_else}
use Rattle.bind_entry.proofs.columns.collate_of.Given as goal

abbrev pub invariant-loop-constraint : goal.invariant-loop-constraint
invariant-loop-constraint l =
    collate_of (facts_of l.facts) l.text l.constraints ≡ or_else (collate_of (facts_of l.facts) l.text (drop l.constraint-index l.constraints)) l.found
