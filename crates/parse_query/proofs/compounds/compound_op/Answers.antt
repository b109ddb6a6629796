use Rattle.std.proofs.Common.{arith}
use Rattle.parse_query.proofs.CompoundSteps.{compound_ops}
use Rattle.parse_query.proofs.compounds.compound_op.Goals as goal

pub returns-then-sees : goal.returns-then-sees
returns-then-sees c = grind (arith, compound_ops)

pub returns-in_err-expect : goal.returns-in_err-expect
returns-in_err-expect c = grind (arith, compound_ops)

pub returns-then-sees-2 : goal.returns-then-sees-2
returns-then-sees-2 c = grind (arith, compound_ops)

pub returns-in_err-expect-2 : goal.returns-in_err-expect-2
returns-in_err-expect-2 c = grind (arith, compound_ops)

pub returns : goal.returns
returns c = grind (arith, compound_ops)
