use Rattle.std.proofs.Common.{◌≡◌, map, drop, []}
use Rattle.bind_query.specs.Scopes.{scope_of}
use Rattle.bind_target.specs.Meant.{target_meant}
use Rattle.sql_bound.specs.Trees.{of_assignment}
use Rattle.sql_bound.specs.Writes.{sets_bound}
use Rattle.bind_write.proofs.writes.bind_sets.Given as goal

abbrev pub invariant-loop-set : goal.invariant-loop-set
invariant-loop-set l =
    sets_bound (scope_of l.scope l.levels []) (target_meant l.target) (map of_assignment l.assignments) ([], l.fn.work)
    ≡ sets_bound (scope_of l.scope l.levels []) (target_meant l.target) (map of_assignment (drop l.set-index l.assignments)) (l.sets, l.work)
