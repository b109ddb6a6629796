use Rattle.std.proofs.Common.{◌≡◌, drop}
use Rattle.std.specs.List.{list_any}
use Rattle.sql_bound.specs.Scopes.{is_called}
use Rattle.sql_bound.specs.declared.scopes.ScopeItem.{ScopeItem}
use Rattle.bind_column.proofs.stars.any_called.Given as goal

abbrev pub invariant-loop-item : goal.invariant-loop-item
invariant-loop-item l = list_any (λ (item : ScopeItem). is_called l.table item.name) l.level ≡ list_any (λ (item : ScopeItem). is_called l.table item.name) (drop l.item-index l.level)
