use Rattle.std.proofs.Common.{◌≡◌, filter, take, false}
use Rattle.std.specs.List.{flat_map}
use Rattle.sql_bound.specs.declared.scopes.ScopeItem.{ScopeItem}
use Rattle.bind_column.specs.Stars.{shown_so}
use Rattle.bind_column.proofs.stars.all_shown.Given as goal

abbrev pub invariant-loop-item : goal.invariant-loop-item
invariant-loop-item l = l.shown ≡ flat_map (λ (i : ScopeItem). filter (shown_so false) i.columns) (take l.item-index l.level)
