use Rattle.gen_write.proofs.Sizing.{steps-few}
use Rattle.gen_write.proofs.laws.an_insert_takes_few_steps.Goals as goal

pub returns : goal.returns
returns c = steps-few
