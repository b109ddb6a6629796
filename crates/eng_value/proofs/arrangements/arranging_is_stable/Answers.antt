use Rattle.eng_value.proofs.Arranging.{arranged-arranged, arranged-shuffled, arranged-stays, arranged-to, filter-arranged}
use Rattle.eng_value.proofs.Sorting.{arranged-stable, stable_is_arranged}
use Rattle.eng_value.proofs.arrangements.arranging_is_stable.Goals as goal

pub returns-clause-elements : goal.returns-clause-elements
returns-clause-elements g c = λ before xs. arranged-shuffled before xs

pub returns-clause-order : goal.returns-clause-order
returns-clause-order g c = λ before o xs. arranged-arranged before o xs

pub returns-clause-stable : goal.returns-clause-stable
returns-clause-stable g c = λ before o xs. arranged-stable before o xs

pub returns-clause-only : goal.returns-clause-only
returns-clause-only g c = λ before o xs ys. stable_is_arranged before o xs ys

pub returns-clause-part : goal.returns-clause-part
returns-clause-part g c = λ before o p xs. filter-arranged before o p xs

pub returns-clause-stays : goal.returns-clause-stays
returns-clause-stays g c = λ before xs. arranged-stays before xs

pub returns-clause-ascending : goal.returns-clause-ascending
returns-clause-ascending g c = λ before o xs ys. arranged-to before o xs ys
