use Rattle.std.proofs.Common.{◌≡◌, drop, map}
use Rattle.std.specs.List.{list_any}
use Rattle.sql_bound.specs.Cores.{result_aggregates}
use Rattle.sql_bound.specs.HostFacts.{facts_of}
use Rattle.sql_bound.specs.Trees.{of_result}
use Rattle.bind_callee.specs.Told.{told}
use Rattle.bind_result.proofs.grouping.any_holds.Given as goal

abbrev pub invariant-loop-column : goal.invariant-loop-column
invariant-loop-column l = list_any (result_aggregates (told l.text (facts_of l.facts))) (map of_result (drop l.column-index l.results)) ≡ list_any (result_aggregates (told l.text (facts_of l.facts))) (map of_result l.results)
