use Rattle.std.proofs.Common.{arith}
use Rattle.parse_operand.proofs.Clear.{behind_name_firsts}
use Rattle.sql_grammar.specs.Grammar.{behind_name}
use Rattle.parse_operand.proofs.operands.Operands.behind_name.Goals as goal

pub returns-then-sees : goal.returns-then-sees
unfolding behind_name
returns-then-sees g c = grind (arith, behind_name_firsts)

pub returns-then-sees-2 : goal.returns-then-sees-2
unfolding behind_name
returns-then-sees-2 g c = grind (arith, behind_name_firsts)

pub returns-else-sees-2 : goal.returns-else-sees-2
unfolding behind_name
returns-else-sees-2 g c = grind (arith, behind_name_firsts)
