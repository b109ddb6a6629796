use Rattle.std.proofs.Common.{arith}
use Rattle.parse_operand.proofs.Clear.{primary_firsts}
use Rattle.sql_grammar.specs.Grammar.{primary}
use Rattle.parse_operand.proofs.operands.Operands.primary.Goals as goal

pub returns-then-sees_any : goal.returns-then-sees_any
unfolding primary
returns-then-sees_any g c = grind (arith, primary_firsts)

pub returns-then-sees : goal.returns-then-sees
unfolding primary
returns-then-sees g c = grind (arith, primary_firsts)

pub returns-then-sees_name : goal.returns-then-sees_name
unfolding primary
returns-then-sees_name g c = grind (arith, primary_firsts)

pub returns-then-sees-2 : goal.returns-then-sees-2
unfolding primary
returns-then-sees-2 g c = grind (arith, primary_firsts)

pub returns-then-sees-3 : goal.returns-then-sees-3
unfolding primary
returns-then-sees-3 g c = grind (arith, primary_firsts)

pub returns-then-sees-4 : goal.returns-then-sees-4
unfolding primary
returns-then-sees-4 g c = grind (arith, primary_firsts)

pub returns-then-sees-5 : goal.returns-then-sees-5
unfolding primary
returns-then-sees-5 g c = grind (arith, primary_firsts)

pub returns-else-sees-5 : goal.returns-else-sees-5
unfolding primary
returns-else-sees-5 g c = grind (arith, primary_firsts)

pub enclosed-requires : goal.enclosed-requires
enclosed-requires g c = record { exprs = c.requires.exprs; queries = c.requires.queries }
