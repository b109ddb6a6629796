use Rattle.std.proofs.Common.{◌≡◌, drop, map}
use Rattle.sql_bound.specs.Orders.{terms_of_compound}
use Rattle.sql_bound.specs.Trees.{of_term}
use Rattle.bind_result.specs.Terms.{collected}
use Rattle.bind_result.proofs.compounds.terms_of_compound.Given as goal

abbrev pub invariant-loop-term : goal.invariant-loop-term
invariant-loop-term l = terms_of_compound l.text l.columns (map of_term l.order) ≡ collected l.text l.columns (map of_term (drop l.term-index l.order)) l.terms
