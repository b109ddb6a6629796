use Rattle.std.proofs.Common.{arith}
use Rattle.parse_expr.proofs.Straight.{nots_first}
use Rattle.parse_expr.proofs.Lists.{nots_are_clear}
use Rattle.parse_expr.proofs.precedence.Levels.negation.Goals as goal

pub returns-in_err-nots : goal.returns-in_err-nots
returns-in_err-nots g c = grind (arith, nots_first)

pub returns-in_err-operand : goal.returns-in_err-operand
returns-in_err-operand g c = grind (arith, nots_first)

pub returns : goal.returns
returns g c = grind (arith, nots_first)

pub prefixes-requires : goal.prefixes-requires
prefixes-requires g c = record { clear = nots_are_clear }

pub equality-requires : goal.equality-requires
equality-requires g c = record { exprs = c.requires.exprs; queries = c.requires.queries }
