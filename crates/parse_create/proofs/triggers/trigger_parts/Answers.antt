use Rattle.std.proofs.Common.{arith}
use Rattle.parse_create.proofs.Triggered.{trigger_parts_is}
use Rattle.parse_create.proofs.triggers.trigger_parts.Goals as goal

pub returns-in_err-time : goal.returns-in_err-time
returns-in_err-time c = grind (arith, trigger_parts_is)

pub returns-in_err-event : goal.returns-in_err-event
returns-in_err-event c = grind (arith, trigger_parts_is)

pub returns-in_err-table : goal.returns-in_err-table
returns-in_err-table c = grind (arith, trigger_parts_is)

pub returns-in_err-for_each_row : goal.returns-in_err-for_each_row
returns-in_err-for_each_row c = grind (arith, trigger_parts_is)

pub returns-in-Err : goal.returns-in-Err
returns-in-Err c = grind (arith, trigger_parts_is)

pub returns-in-Err-trigger_body : goal.returns-in-Err-trigger_body
returns-in-Err-trigger_body c = grind (arith, trigger_parts_is)

pub returns-in-Ok-trigger_body : goal.returns-in-Ok-trigger_body
returns-in-Ok-trigger_body c = grind (arith, trigger_parts_is)
