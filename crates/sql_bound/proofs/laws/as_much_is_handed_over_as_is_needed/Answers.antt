use Rattle.sql_bound.proofs.HandLaws.{as_many, asked_with_all, needs_kept, same_aggregates, same_units}
use Rattle.sql_bound.proofs.laws.as_much_is_handed_over_as_is_needed.Goals as goal

pub returns-clause-count : goal.returns-clause-count
returns-clause-count c = as_many

pub returns-clause-units : goal.returns-clause-units
returns-clause-units c = same_units

pub returns-clause-aggregates : goal.returns-clause-aggregates
returns-clause-aggregates c = same_aggregates

pub returns-clause-kept : goal.returns-clause-kept
returns-clause-kept c = needs_kept

pub returns-clause-asked : goal.returns-clause-asked
returns-clause-asked c = asked_with_all
