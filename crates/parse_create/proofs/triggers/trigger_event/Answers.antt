use Rattle.std.proofs.Common.{arith}
use Rattle.parse_create.proofs.Triggered.{events}
use Rattle.parse_create.proofs.triggers.trigger_event.Goals as goal

pub returns-in_err-expect : goal.returns-in_err-expect
returns-in_err-expect c = grind (arith, events)

pub returns-then-sees : goal.returns-then-sees
returns-then-sees c = grind (arith, events)

pub returns-in_err-expect-2 : goal.returns-in_err-expect-2
returns-in_err-expect-2 c = grind (arith, events)

pub returns-then-sees-2 : goal.returns-then-sees-2
returns-then-sees-2 c = grind (arith, events)

pub returns-in_err-expect-3 : goal.returns-in_err-expect-3
returns-in_err-expect-3 c = grind (arith, events)

pub returns-in_err-of_columns : goal.returns-in_err-of_columns
returns-in_err-of_columns c = grind (arith, events)

pub returns : goal.returns
returns c = grind (arith, events)
