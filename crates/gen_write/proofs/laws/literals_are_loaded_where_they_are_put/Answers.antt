use Rattle.gen_write.proofs.Sizing.{literals-none}
use Rattle.gen_write.proofs.laws.literals_are_loaded_where_they_are_put.Goals as goal

pub returns : goal.returns
returns c = literals-none
