use Rattle.std.proofs.Common.{arith}
use Rattle.parse_create.proofs.Straight.{conflict_choices}
use Rattle.parse_create.proofs.writes.conflict_choice.Goals as goal

pub returns-then-not-sees : goal.returns-then-not-sees
returns-then-not-sees c = grind (arith, conflict_choices)

pub returns-in_err-expect : goal.returns-in_err-expect
returns-in_err-expect c = grind (arith, conflict_choices)

pub returns : goal.returns
returns c = grind (arith, conflict_choices)
