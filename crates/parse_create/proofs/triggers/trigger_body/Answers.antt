use Rattle.std.proofs.Common.{arith}
use Rattle.sql_grammar.specs.Definitions.{trigger_body}
use Rattle.parse_create.proofs.triggers.trigger_body.Goals as goal

pub returns-in_err-expect : goal.returns-in_err-expect
unfolding trigger_body
returns-in_err-expect c = grind arith

pub returns-in-Err : goal.returns-in-Err
unfolding trigger_body
returns-in-Err c = grind arith

pub returns-in-Ok : goal.returns-in-Ok
unfolding trigger_body
returns-in-Ok c = grind arith
