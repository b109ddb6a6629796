use Rattle.std.proofs.Common.{◌≡◌, filter, map, take}
use Rattle.sql_bound.specs.Froms.{is_shown_left}
use Rattle.sql_bound.specs.declared.scopes.ScopeColumn.{ScopeColumn}
use Rattle.bind_join.proofs.joins.common_names.Given as goal

abbrev pub invariant-loop-column : goal.invariant-loop-column
invariant-loop-column l = l.names ≡ map (λ (c : ScopeColumn). c.name) (filter (is_shown_left l.left) (take l.column-index l.right.columns))
