use Rattle.std.proofs.Common.{[], arith}
use Rattle.sql_bound.specs.Froms.{nothing_found}
use Rattle.sql_bound.specs.Results.{nothing_shown}
use Rattle.sql_bound.proofs.LimitLaws.{items_kept, joined_kept, results_kept, row_kept}
use Rattle.sql_bound.proofs.laws.what_is_bound_keeps_the_limits.Goals as goal

pub returns-clause-row : goal.returns-clause-row
returns-clause-row c s values w v row e = let k = row_kept s values ([], w) (row, v) (omega arith) e in let n = k.0 in (omega arith, k.1)

pub returns-clause-results : goal.returns-clause-results
returns-clause-results c s results w v shown e = results_kept s results (nothing_shown, w) (shown, v) (omega arith) e

pub returns-clause-from : goal.returns-clause-from
returns-clause-from c i queue items w v found e = let k = items_kept i queue items nothing_found w (found, v) (omega arith) e in let n = k.0 in (omega arith, k.1)

pub returns-clause-joined_by : goal.returns-clause-joined_by
returns-clause-joined_by c = joined_kept
