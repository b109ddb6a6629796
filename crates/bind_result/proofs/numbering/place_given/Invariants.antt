use Rattle.std.proofs.Common.{◌≡◌, drop, map}
use Rattle.sql_bound.specs.Orders.{place_given}
use Rattle.sql_bound.specs.Results.{shown_in}
use Rattle.sql_bound.specs.Trees.{of_result}
use Rattle.bind_result.specs.Numbers.{further}
use Rattle.bind_result.proofs.numbering.place_given.Given as goal

abbrev pub invariant-loop-column : goal.invariant-loop-column
invariant-loop-column l =
    place_given l.wanted (shown_in l.text l.own (map of_result l.results))
    ≡ further l.place (place_given l.wanted (shown_in l.text l.own (map of_result (drop l.column-index l.results))))
