use Rattle.std.proofs.Common.{arith}
use Rattle.sql_grammar.specs.Definitions.{check}
use Rattle.parse_create.proofs.constraints.check.Goals as goal

pub returns-in_err-expect : goal.returns-in_err-expect
unfolding check
returns-in_err-expect c = grind arith

pub returns : goal.returns
unfolding check
returns c = grind arith
