use Rattle.gen_query.proofs.Sizing.{values-few}
use Rattle.gen_query.proofs.laws.values_take_few_steps.Goals as goal

pub returns : goal.returns
returns c = values-few
