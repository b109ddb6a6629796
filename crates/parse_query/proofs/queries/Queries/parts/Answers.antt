use Rattle.std.proofs.Common.{arith}
use Rattle.parse_query.proofs.CompoundSteps.{part_shorter, parts_steps}
use Rattle.parse_query.proofs.queries.Queries.parts.Goals as goal

pub returns-in-Err : goal.returns-in-Err
returns-in-Err g c = grind (arith, parts_steps)

pub returns-in-Err-compound_part : goal.returns-in-Err-compound_part
returns-in-Err-compound_part g c = grind (arith, parts_steps)

pub returns-in_err-push : goal.returns-in_err-push
returns-in_err-push g c = grind (arith, parts_steps)

pub returns : goal.returns
returns g c = grind (arith, parts_steps)

pub loop-tokens-smaller : goal.loop-tokens-smaller
loop-tokens-smaller g c = part_shorter _ _ _ _ _ _ c.in-Ok-compound_part.ensures
