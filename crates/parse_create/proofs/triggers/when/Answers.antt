use Rattle.std.proofs.Common.{arith}
use Rattle.sql_grammar.specs.Definitions.{when}
use Rattle.parse_create.proofs.triggers.when.Goals as goal

pub returns-in_err-expect : goal.returns-in_err-expect
unfolding when
returns-in_err-expect c = grind arith

pub returns-in-Err : goal.returns-in-Err
unfolding when
returns-in-Err c = grind arith

pub returns-in-Ok : goal.returns-in-Ok
unfolding when
returns-in-Ok c = grind arith

pub returns-else-sees : goal.returns-else-sees
unfolding when
returns-else-sees c = grind arith
