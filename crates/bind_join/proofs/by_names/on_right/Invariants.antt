use Rattle.std.proofs.Common.{◌≡◌, filter, take}
use Rattle.bind_join.specs.Joins.{counted}
use Rattle.eng_entry.specs.Names.{is_same_name}
use Rattle.sql_bound.specs.declared.scopes.ScopeColumn.{ScopeColumn}
use Rattle.bind_join.proofs.by_names.on_right.Given as goal

abbrev pub invariant-loop-column : goal.invariant-loop-column
invariant-loop-column l = l.found ≡ filter (counted l.which) (filter (λ (c : ScopeColumn). is_same_name c.name l.name) (take l.column-index l.right.columns))
