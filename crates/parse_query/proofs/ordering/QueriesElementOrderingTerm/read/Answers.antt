use Rattle.std.proofs.Common.{arith}
use Rattle.parse_query.proofs.OrderingSteps.{term_is}
use Rattle.parse_query.proofs.ordering.QueriesElementOrderingTerm.read.Goals as goal

pub returns-in_err-key : goal.returns-in_err-key
returns-in_err-key g c = grind (arith, term_is)

pub returns-in_err-descending : goal.returns-in_err-descending
returns-in_err-descending g c = grind (arith, term_is)

pub returns-in_err-nulls : goal.returns-in_err-nulls
returns-in_err-nulls g c = grind (arith, term_is)

pub returns : goal.returns
returns g c = grind (arith, term_is)
