use Rattle.std.proofs.Common.{arith}
use Rattle.parse_create.proofs.Clear.{first_in_expression}
use Rattle.sql_grammar.specs.Definitions.{default_value}
use Rattle.parse_create.proofs.constraints.default_value.Goals as goal

pub returns-in_err-literal : goal.returns-in_err-literal
unfolding default_value
returns-in_err-literal c = grind (arith, first_in_expression)

pub returns-then-sees_any : goal.returns-then-sees_any
unfolding default_value
returns-then-sees_any c = grind (arith, first_in_expression)

pub returns-then-sees : goal.returns-then-sees
unfolding default_value
returns-then-sees c = grind (arith, first_in_expression)

pub returns-in_err-number : goal.returns-in_err-number
unfolding default_value
returns-in_err-number c = grind (arith, first_in_expression)

pub returns-in-Err : goal.returns-in-Err
unfolding default_value
returns-in-Err c = grind (arith, first_in_expression)

pub returns-in-Ok : goal.returns-in-Ok
unfolding default_value
returns-in-Ok c = grind (arith, first_in_expression)
