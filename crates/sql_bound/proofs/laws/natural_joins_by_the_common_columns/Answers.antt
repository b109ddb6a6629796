use Rattle.std.proofs.Common.{refl}
use Rattle.sql_bound.proofs.ItemLaws.{as_using, item_as_using}
use Rattle.sql_bound.proofs.laws.natural_joins_by_the_common_columns.Goals as goal

pub returns-clause-as_using : goal.returns-clause-as_using
returns-clause-as_using c = as_using

pub returns-clause-item_as_using : goal.returns-clause-item_as_using
returns-clause-item_as_using c = item_as_using

pub returns-clause-not_with_on : goal.returns-clause-not_with_on
returns-clause-not_with_on c i left x j w = refl

pub returns-clause-not_with_using : goal.returns-clause-not_with_using
returns-clause-not_with_using c i left names j w = refl
