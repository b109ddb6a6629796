use Rattle.sql_limits.proofs.Sums as sums
use Rattle.sql_limits.proofs.laws.each_token_counts_once.Goals as goal

pub returns-clause-operators : goal.returns-clause-operators
returns-clause-operators c = sums.operators_of_one

pub returns-clause-parts : goal.returns-clause-parts
returns-clause-parts c = sums.parts_of_one
