use Rattle.sql_bound.proofs.JoinLaws.{using_joins}
use Rattle.sql_bound.proofs.laws.using_joins_all_of_the_name.Goals as goal

pub returns : goal.returns
returns c = using_joins
