use Rattle.std.proofs.Common.{◌≡◌, drop}
use Rattle.bind_query.specs.Scopes.{result_called}
use Rattle.bind_query.proofs.naming.result_called.Given as goal

abbrev pub invariant-loop-column : goal.invariant-loop-column
invariant-loop-column l = result_called l.scope.text l.scope.results l.called ≡ result_called l.scope.text (drop l.column-index l.scope.results) l.called
