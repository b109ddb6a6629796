use Rattle.bound_size.proofs.ResultLaws.{results_few}
use Rattle.bound_size.proofs.laws.results_are_linear.Goals as goal

pub returns : goal.returns
returns c s results w r bare outer own plain h = results_few s results w r bare outer own plain h
