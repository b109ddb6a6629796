use Rattle.std.proofs.Common.{arith}
use Rattle.parse_clause.proofs.Joins.{joins}
use Rattle.parse_clause.proofs.from.join.Goals as goal

pub returns-in_err-expect : goal.returns-in_err-expect
returns-in_err-expect c = grind (arith, joins)

pub returns-then-sees : goal.returns-then-sees
returns-then-sees c = grind (arith, joins)

pub returns : goal.returns
returns c = grind (arith, joins)
