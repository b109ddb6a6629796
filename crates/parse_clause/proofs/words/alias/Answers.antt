use Rattle.std.proofs.Common.{arith}
use Rattle.parse_clause.proofs.Aliases.{aliases}
use Rattle.parse_clause.proofs.words.alias.Goals as goal

pub returns-in_err-expect : goal.returns-in_err-expect
returns-in_err-expect c = grind (arith, aliases)

pub returns-in_err-name : goal.returns-in_err-name
returns-in_err-name c = grind (arith, aliases)

pub returns-then-sees : goal.returns-then-sees
returns-then-sees c = grind (arith, aliases)

pub returns-in_err-name-2 : goal.returns-in_err-name-2
returns-in_err-name-2 c = grind (arith, aliases)

pub returns-then-sees_name : goal.returns-then-sees_name
returns-then-sees_name c = grind (arith, aliases)

pub returns : goal.returns
returns c = grind (arith, aliases)
