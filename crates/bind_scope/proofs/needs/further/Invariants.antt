use Rattle.std.proofs.Common.{◌≡◌, take, map}
use Rattle.sql_bound.specs.Scopes.{further}
use Rattle.bind_scope.proofs.needs.further.Given as goal

abbrev pub invariant-loop-need : goal.invariant-loop-need
invariant-loop-need l = l.all ≡ map (further l.distance) (take l.need-index l.needs)
