use Rattle.std.proofs.Common.{arith}
use Rattle.parse_create.proofs.Clear.{constraint_firsts}
use Rattle.sql_grammar.specs.Definitions.{column_rule_of, null, unique_column}
use Rattle.parse_create.proofs.constraints.column_rule.Goals as goal

pub returns-then-sees : goal.returns-then-sees
unfolding column_rule_of null unique_column
returns-then-sees c = grind (arith, constraint_firsts)

pub returns-then-sees-2 : goal.returns-then-sees-2
unfolding column_rule_of null unique_column
returns-then-sees-2 c = grind (arith, constraint_firsts)

pub returns-in_err-expect : goal.returns-in_err-expect
unfolding column_rule_of null unique_column
returns-in_err-expect c = grind (arith, constraint_firsts)

pub returns-then-sees-3 : goal.returns-then-sees-3
unfolding column_rule_of null unique_column
returns-then-sees-3 c = grind (arith, constraint_firsts)

pub returns-in_err-expect-2 : goal.returns-in_err-expect-2
unfolding column_rule_of null unique_column
returns-in_err-expect-2 c = grind (arith, constraint_firsts)

pub returns-then-sees-4 : goal.returns-then-sees-4
unfolding column_rule_of null unique_column
returns-then-sees-4 c = grind (arith, constraint_firsts)

pub returns-in-Err : goal.returns-in-Err
unfolding column_rule_of null unique_column
returns-in-Err c = grind (arith, constraint_firsts)

pub returns-in-Ok : goal.returns-in-Ok
unfolding column_rule_of null unique_column
returns-in-Ok c = grind (arith, constraint_firsts)

pub returns-in_err-expect-3 : goal.returns-in_err-expect-3
unfolding column_rule_of null unique_column
returns-in_err-expect-3 c = grind (arith, constraint_firsts)

pub returns-in-Err-default_value : goal.returns-in-Err-default_value
unfolding column_rule_of null unique_column
returns-in-Err-default_value c = grind (arith, constraint_firsts)

pub returns-in-Ok-default_value : goal.returns-in-Ok-default_value
unfolding column_rule_of null unique_column
returns-in-Ok-default_value c = grind (arith, constraint_firsts)

pub returns-in_err-collate : goal.returns-in_err-collate
unfolding column_rule_of null unique_column
returns-in_err-collate c = grind (arith, constraint_firsts)

pub returns : goal.returns
unfolding column_rule_of null unique_column
returns c = grind (arith, constraint_firsts)
