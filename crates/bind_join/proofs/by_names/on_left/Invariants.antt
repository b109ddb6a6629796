use Rattle.std.proofs.Common.{◌≡◌, ◌++◌, drop}
use Rattle.bind_join.specs.Joins.{counted}
use Rattle.sql_bound.specs.Froms.{on_left}
use Rattle.bind_join.proofs.by_names.on_left.Given as goal

abbrev pub invariant-loop-item : goal.invariant-loop-item
invariant-loop-item l = on_left (counted l.which) l.name l.left ≡ l.found ++ on_left (counted l.which) l.name (drop l.item-index l.left)
