use Rattle.bound_size.proofs.laws.constraints_are_linear.Goals as goal
use Rattle.bound_size.proofs.StatementLaws.{target_small}

pub returns : goal.returns
returns c around text s i b is h = target_small around text s i b is h
