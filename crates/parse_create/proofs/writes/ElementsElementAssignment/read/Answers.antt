use Rattle.std.proofs.Common.{arith}
use Rattle.sql_grammar.specs.Writes.{assignment}
use Rattle.parse_create.proofs.writes.ElementsElementAssignment.read.Goals as goal

pub returns-in_err-column : goal.returns-in_err-column
unfolding assignment
returns-in_err-column c = grind arith

pub returns-in_err-expect : goal.returns-in_err-expect
unfolding assignment
returns-in_err-expect c = grind arith

pub returns-in-Err : goal.returns-in-Err
unfolding assignment
returns-in-Err c = grind arith

pub returns-in-Ok : goal.returns-in-Ok
unfolding assignment
returns-in-Ok c = grind arith
