use Rattle.std.proofs.Common.{arith}
use Rattle.parse_create.proofs.Clear.{creation_firsts}
use Rattle.sql_grammar.specs.Definitions.{named_definition}
use Rattle.parse_create.proofs.creating.named_definition.Goals as goal

pub returns-then-sees : goal.returns-then-sees
unfolding named_definition
returns-then-sees c = grind (arith, creation_firsts)

pub returns-then-sees_any : goal.returns-then-sees_any
unfolding named_definition
returns-then-sees_any c = grind (arith, creation_firsts)

pub returns-then-sees-2 : goal.returns-then-sees-2
unfolding named_definition
returns-then-sees-2 c = grind (arith, creation_firsts)

pub returns-then-sees-3 : goal.returns-then-sees-3
unfolding named_definition
returns-then-sees-3 c = grind (arith, creation_firsts)

pub returns : goal.returns
unfolding named_definition
returns c = grind (arith, creation_firsts)
