use Rattle.std.proofs.Common.{arith}
use Rattle.parse_query.proofs.Selecting.{group_bys}
use Rattle.parse_query.proofs.queries.Queries.group_by.Goals as goal

pub returns-then-not-sees : goal.returns-then-not-sees
returns-then-not-sees g c = grind (arith, group_bys)

pub returns-in_err-expect : goal.returns-in_err-expect
returns-in_err-expect g c = grind (arith, group_bys)

pub returns-in_err-expect-2 : goal.returns-in_err-expect-2
returns-in_err-expect-2 g c = grind (arith, group_bys)

pub returns : goal.returns
returns g c = grind (arith, group_bys)
