use Rattle.std.proofs.Common.{◌≡◌, drop, ◌++◌}
use Rattle.sql_bound.specs.Scopes.{handed}
use Rattle.bind_scope.proofs.needs.handed.Given as goal

abbrev pub invariant-loop-need : goal.invariant-loop-need
invariant-loop-need l = handed l.needs l.fn.work ≡ ((l.found ++ (handed (drop l.need-index l.needs) l.work).0), (handed (drop l.need-index l.needs) l.work).1)
