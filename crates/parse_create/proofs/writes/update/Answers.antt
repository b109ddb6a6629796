use Rattle.std.proofs.Common.{arith}
use Rattle.parse_create.proofs.Straight.{update_is}
use Rattle.parse_create.proofs.writes.update.Goals as goal

pub returns-in_err-expect : goal.returns-in_err-expect
returns-in_err-expect c = grind (arith, update_is)

pub returns-in_err-choice : goal.returns-in_err-choice
returns-in_err-choice c = grind (arith, update_is)

pub returns-in_err-table : goal.returns-in_err-table
returns-in_err-table c = grind (arith, update_is)

pub returns-in_err-expect-2 : goal.returns-in_err-expect-2
returns-in_err-expect-2 c = grind (arith, update_is)

pub returns-in-Err : goal.returns-in-Err
returns-in-Err c = grind (arith, update_is)

pub returns-in-Err-filter_by : goal.returns-in-Err-filter_by
returns-in-Err-filter_by c = grind (arith, update_is)

pub returns-in-Ok-filter_by : goal.returns-in-Ok-filter_by
returns-in-Ok-filter_by c = grind (arith, update_is)
