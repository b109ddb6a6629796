use Rattle.std.proofs.Common.{arith}
use Rattle.parse_query.proofs.Selecting.{select_core_is}
use Rattle.parse_query.proofs.queries.Queries.select_core.Goals as goal

pub returns-in_err-distinct : goal.returns-in_err-distinct
returns-in_err-distinct g c = grind (arith, select_core_is)

pub returns-in-Err : goal.returns-in-Err
returns-in-Err g c = grind (arith, select_core_is)

pub returns-in-Err-from : goal.returns-in-Err-from
returns-in-Err-from g c = grind (arith, select_core_is)

pub returns-in-Err-filter_by : goal.returns-in-Err-filter_by
returns-in-Err-filter_by g c = grind (arith, select_core_is)

pub returns-in-Err-group_by : goal.returns-in-Err-group_by
returns-in-Err-group_by g c = grind (arith, select_core_is)

pub returns-in-Err-having : goal.returns-in-Err-having
returns-in-Err-having g c = grind (arith, select_core_is)

pub returns-in-Ok-having : goal.returns-in-Ok-having
returns-in-Ok-having g c = grind (arith, select_core_is)
