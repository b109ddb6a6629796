use Rattle.std.proofs.Common.{◌≡◌, ◌++◌, filter, take}
use Rattle.bind_join.specs.Joins.{is_joinable}
use Rattle.bind_join.proofs.by_names.put_item.Given as goal

abbrev pub invariant-loop-column : goal.invariant-loop-column
invariant-loop-column l = l.found ≡ l.fn.found ++ filter (is_joinable l.which l.name) (take l.column-index l.item.columns)
