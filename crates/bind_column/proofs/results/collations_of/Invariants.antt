use Rattle.std.proofs.Common.{◌≡◌, ◌++◌, drop}
use Rattle.sql_bound.specs.Compounds.{collations_of}
use Rattle.bind_column.proofs.results.collations_of.Given as goal

abbrev pub invariant-loop-a : goal.invariant-loop-a
invariant-loop-a l = collations_of l.first l.part ≡ l.found ++ collations_of (drop l.a-index l.first) l.others
