use Rattle.eng_value.proofs.Sorting.{sorted_is_arranged}
use Rattle.eng_value.proofs.arrangements.stable_sorts_arrange.Goals as goal

pub returns : goal.returns
returns g c = λ before o xs ys up stable. sorted_is_arranged before o xs ys up stable
