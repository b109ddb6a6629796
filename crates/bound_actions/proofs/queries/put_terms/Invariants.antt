use Rattle.std.proofs.Common.{◌≡◌, ◌++◌, drop}
use Rattle.bound_actions.specs.Queries.{terms_pieces}
use Rattle.bound_actions.proofs.queries.put_terms.Given as goal

abbrev pub invariant-loop-term : goal.invariant-loop-term
invariant-loop-term l = l.fn.out ++ terms_pieces l.units l.spot l.terms ≡ l.out ++ terms_pieces l.units l.spot (drop l.term-index l.terms)
