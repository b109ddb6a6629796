use Rattle.std.proofs.Common.{arith}
use Rattle.parse_clause.proofs.Spans.{longer_steps}
use Rattle.parse_clause.proofs.results.longer.Goals as goal

pub returns-then-tokens-rest : goal.returns-then-tokens-rest
returns-then-tokens-rest c = grind (arith, longer_steps)

pub returns : goal.returns
returns c = grind (arith, longer_steps)
