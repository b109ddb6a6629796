use Rattle.std.proofs.Common.{◌≡◌, drop}
use Rattle.sql_bound.specs.Scopes.{with_named}
use Rattle.bind_scope.proofs.units.with_named.Given as goal

abbrev pub invariant-loop-entry : goal.invariant-loop-entry
invariant-loop-entry l = with_named l.name l.entries ≡ with_named l.name (drop l.entry-index l.entries)
