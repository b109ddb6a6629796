use Rattle.std.proofs.Common.{arith}
use Rattle.parse_create.proofs.Constrained.{table_rules}
use Rattle.parse_create.proofs.tables.table_rule.Goals as goal

pub returns-in_err-primary_key : goal.returns-in_err-primary_key
returns-in_err-primary_key c = grind (arith, table_rules)

pub returns-in-Err : goal.returns-in-Err
returns-in-Err c = grind (arith, table_rules)

pub returns-in-Ok : goal.returns-in-Ok
returns-in-Ok c = grind (arith, table_rules)

pub returns-in_err-expect : goal.returns-in_err-expect
returns-in_err-expect c = grind (arith, table_rules)

pub returns-in-Err-in_key : goal.returns-in-Err-in_key
returns-in-Err-in_key c = grind (arith, table_rules)

pub returns-in-Ok-in_key : goal.returns-in-Ok-in_key
returns-in-Ok-in_key c = grind (arith, table_rules)

pub returns-in-Err-check : goal.returns-in-Err-check
returns-in-Err-check c = grind (arith, table_rules)

pub returns-in-Ok-check : goal.returns-in-Ok-check
returns-in-Ok-check c = grind (arith, table_rules)
