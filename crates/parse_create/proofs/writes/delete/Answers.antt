use Rattle.std.proofs.Common.{arith}
use Rattle.sql_grammar.specs.Writes.{delete, delete_parts}
use Rattle.parse_create.proofs.writes.delete.Goals as goal

pub returns-in_err-expect : goal.returns-in_err-expect
unfolding delete delete_parts
returns-in_err-expect c = grind arith

pub returns-in_err-expect-2 : goal.returns-in_err-expect-2
unfolding delete delete_parts
returns-in_err-expect-2 c = grind arith

pub returns-in_err-table : goal.returns-in_err-table
unfolding delete delete_parts
returns-in_err-table c = grind arith

pub returns-in-Err : goal.returns-in-Err
unfolding delete delete_parts
returns-in-Err c = grind arith

pub returns-in-Ok : goal.returns-in-Ok
unfolding delete delete_parts
returns-in-Ok c = grind arith
