use Rattle.std.proofs.Common.{◌≡◌, drop}
use Rattle.bind_join.specs.Joins.{counted}
use Rattle.sql_bound.specs.Froms.{using_all, using_one}
use Rattle.sql_bound.specs.Limits.{walked}
use Rattle.bind_join.proofs.by_names.joined_by.Given as goal

abbrev pub invariant-loop-name : goal.invariant-loop-name
invariant-loop-name l =
    using_all (counted l.which) l.left l.names l.fn.j ≡ walked (using_one (counted l.which) l.left) l.room (drop l.name-index l.names) l.joining
