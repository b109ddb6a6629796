use Rattle.std.proofs.Common.{◌≡◌, ◌++◌, drop}
use Rattle.sql_bound.specs.Froms.{renamed}
use Rattle.bind_column.proofs.results.renamed.Given as goal

abbrev pub invariant-loop-name : goal.invariant-loop-name
invariant-loop-name l = renamed l.names l.columns ≡ l.found ++ renamed (drop l.name-index l.names) l.others
