use Rattle.std.proofs.Common.{◌≡◌, map, take}
use Rattle.sql_bound.specs.Trees.{of_assignment}
use Rattle.sql_bound.specs.Writes.{set_names}
use Rattle.bind_write.proofs.writes.set_names.Given as goal

abbrev pub invariant-loop-set : goal.invariant-loop-set
invariant-loop-set l = l.names ≡ set_names l.text (map of_assignment (take l.set-index l.sets))
