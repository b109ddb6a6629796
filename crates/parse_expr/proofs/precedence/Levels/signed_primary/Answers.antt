use Rattle.std.proofs.Common.{arith}
use Rattle.parse_expr.proofs.Straight.{signs_first}
use Rattle.parse_expr.proofs.Lists.{signs_are_clear}
use Rattle.parse_expr.proofs.precedence.Levels.signed_primary.Goals as goal

pub returns-in_err-signs : goal.returns-in_err-signs
returns-in_err-signs g c = grind (arith, signs_first)

pub returns-in_err-operand : goal.returns-in_err-operand
returns-in_err-operand g c = grind (arith, signs_first)

pub returns : goal.returns
returns g c = grind (arith, signs_first)

pub prefixes-requires : goal.prefixes-requires
prefixes-requires g c = record { clear = signs_are_clear }

pub primary-requires : goal.primary-requires
primary-requires g c = record { exprs = c.requires.exprs; queries = c.requires.queries }
