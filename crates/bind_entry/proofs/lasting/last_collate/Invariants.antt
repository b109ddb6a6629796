use Rattle.std.proofs.Common.{◌≡◌, drop}
use Rattle.sql_bound.specs.Lasting.{last_collate}
use Rattle.sql_words.specs.Refusals.{or_else}
use Rattle.bind_entry.proofs.lasting.last_collate.Given as goal

abbrev pub invariant-loop-constraint : goal.invariant-loop-constraint
invariant-loop-constraint l = last_collate l.constraints ≡ or_else (last_collate (drop l.constraint-index l.constraints)) l.found
