use Rattle.std.proofs.Common.{arith}
use Rattle.parse_create.proofs.Elements.{elements_steps}
use Rattle.sql_grammar.specs.Definitions.{column, table_constraint}
use Rattle.parse_cursor.proofs.Steps.{next_shorter}
use Rattle.parse_create.proofs.Clear.{column_clear, table_constraint_clear}
use Rattle.parse_create.proofs.tables.all_columns.Goals as goal

pub returns-in-Err : goal.returns-in-Err
returns-in-Err c = grind (arith, elements_steps)

pub returns-in_err-push-in-Ok : goal.returns-in_err-push-in-Ok
returns-in_err-push-in-Ok c = grind (arith, elements_steps)

pub returns-in_err-expect : goal.returns-in_err-expect
returns-in_err-expect c = grind (arith, elements_steps)

pub returns-in-Err-column : goal.returns-in-Err-column
returns-in-Err-column c = grind (arith, elements_steps)

pub returns-in_err-push-in-Ok-column : goal.returns-in_err-push-in-Ok-column
returns-in_err-push-in-Ok-column c = grind (arith, elements_steps)

pub loop-alloc-preserved-then-sees_name : goal.loop-alloc-preserved-then-sees_name
loop-alloc-preserved-then-sees_name c = grind (arith, elements_steps)

pub returns-in-Err-table_constraint : goal.returns-in-Err-table_constraint
returns-in-Err-table_constraint c = grind (arith, elements_steps)

pub loop-alloc-preserved : goal.loop-alloc-preserved
loop-alloc-preserved c = grind (arith, elements_steps)

pub returns-in_err-push-in-Ok-table_constraint : goal.returns-in_err-push-in-Ok-table_constraint
returns-in_err-push-in-Ok-table_constraint c = grind (arith, elements_steps)

pub returns : goal.returns
returns c = grind (arith, elements_steps)

pub loop-alloc-smaller-then-sees_name : goal.loop-alloc-smaller-then-sees_name
loop-alloc-smaller-then-sees_name c = next_shorter column column_clear _ _ _ _ _ _ _ _ _ c.in_ok-expect.ensures c.in-Ok-column.ensures

pub loop-alloc-smaller : goal.loop-alloc-smaller
loop-alloc-smaller c = next_shorter table_constraint table_constraint_clear _ _ _ _ _ _ _ _ _ c.in_ok-expect.ensures c.in-Ok-table_constraint.ensures
