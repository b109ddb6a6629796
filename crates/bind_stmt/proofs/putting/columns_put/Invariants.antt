use Rattle.std.proofs.Common.{◌≡◌, ◌++◌, drop, reverse}
use Rattle.sql_meaning.specs.Running.{columns_put}
use Rattle.bind_stmt.proofs.putting.columns_put.Given as goal

abbrev pub invariant-loop-i : goal.invariant-loop-i
invariant-loop-i l =
    l.found ++ columns_put (drop l.i l.columns) (drop l.i l.places) (reverse l.defaults) (drop l.i l.not_nulls) ≡ columns_put l.columns l.places l.fn.defaults l.not_nulls
