use Rattle.sql_bound.proofs.CaseLaws.{alone, bound_alike, bound_of_item_alike, called_alike, folds_alike, result_alike, with_alike}
use Rattle.sql_bound.proofs.laws.the_case_of_a_name_does_not_count.Goals as goal

pub returns-clause-alone : goal.returns-clause-alone
returns-clause-alone c a b levels h = alone a b (folds_alike a b h) levels

pub returns-clause-called : goal.returns-clause-called
returns-clause-called c t u a b levels k h = called_alike a b (folds_alike a b h) t u (folds_alike t u k) levels

pub returns-clause-result : goal.returns-clause-result
returns-clause-result c a b results h = result_alike a b (folds_alike a b h) results

pub returns-clause-with_table : goal.returns-clause-with_table
returns-clause-with_table c a b tables h = with_alike a b (folds_alike a b h) tables

pub returns-clause-bound : goal.returns-clause-bound
returns-clause-bound c s a b w v x h e = bound_alike a b (folds_alike a b h) s w (x, v) e

pub returns-clause-bound_of_its_item : goal.returns-clause-bound_of_its_item
returns-clause-bound_of_its_item c s t u a b w v x k h e = bound_of_item_alike a b (folds_alike a b h) t u (folds_alike t u k) s w (x, v) e
