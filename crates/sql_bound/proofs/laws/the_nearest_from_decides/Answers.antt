use Rattle.sql_bound.proofs.NameLaws.{none_is_found, one_is_found, two_are_ambiguous}
use Rattle.sql_bound.proofs.laws.the_nearest_from_decides.Goals as goal

pub returns-clause-two : goal.returns-clause-two
returns-clause-two c name candidates = two_are_ambiguous name candidates

pub returns-clause-one : goal.returns-clause-one
returns-clause-one c name candidates = one_is_found name candidates

pub returns-clause-none : goal.returns-clause-none
returns-clause-none c name candidates = none_is_found name candidates 0
