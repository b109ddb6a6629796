use Rattle.std.proofs.Common.{arith}
use Rattle.sql_grammar.specs.Writes.{insert}
use Rattle.parse_create.proofs.writes.insert.Goals as goal

pub returns-in_err-choice : goal.returns-in_err-choice
unfolding insert
returns-in_err-choice c = grind arith

pub returns-in_err-expect : goal.returns-in_err-expect
unfolding insert
returns-in_err-expect c = grind arith

pub returns-in_err-table : goal.returns-in_err-table
unfolding insert
returns-in_err-table c = grind arith

pub returns-in_err-columns : goal.returns-in_err-columns
unfolding insert
returns-in_err-columns c = grind arith

pub returns-in-Err : goal.returns-in-Err
unfolding insert
returns-in-Err c = grind arith

pub returns-in-Ok : goal.returns-in-Ok
unfolding insert
returns-in-Ok c = grind arith
