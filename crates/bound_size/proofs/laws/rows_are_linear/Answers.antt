use Rattle.bound_size.proofs.ValueLaws.{values_few}
use Rattle.bound_size.proofs.laws.rows_are_linear.Goals as goal

pub returns : goal.returns
returns c s rows w r bare own plain h = values_few s bare own rows w r plain h
