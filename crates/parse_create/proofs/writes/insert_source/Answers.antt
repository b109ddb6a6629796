use Rattle.std.proofs.Common.{arith}
use Rattle.sql_grammar.specs.Writes.{insert_source_of}
use Rattle.parse_create.proofs.writes.insert_source.Goals as goal

pub returns-in-Err : goal.returns-in-Err
unfolding insert_source_of
returns-in-Err c = grind arith

pub returns-in-Ok : goal.returns-in-Ok
unfolding insert_source_of
returns-in-Ok c = grind arith

pub returns-in_err-expect : goal.returns-in_err-expect
unfolding insert_source_of
returns-in_err-expect c = grind arith

pub returns-in_err-expect-2 : goal.returns-in_err-expect-2
unfolding insert_source_of
returns-in_err-expect-2 c = grind arith

pub returns : goal.returns
unfolding insert_source_of
returns c = grind arith
