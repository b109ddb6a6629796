use Rattle.gen_query.proofs.Sizing.{steps-few}
use Rattle.gen_query.proofs.laws.a_query_takes_few_steps.Goals as goal

pub returns : goal.returns
returns c = steps-few
