use Rattle.eng_value.proofs.Sorting.{count_by-shuffled, length-shuffled, permutation_from_shuffled}
use Rattle.eng_value.proofs.arrangements.shuffled_lists_hold_the_same.Goals as goal

pub returns-clause-count : goal.returns-clause-count
returns-clause-count g c = λ p xs ys s. count_by-shuffled p xs ys s

pub returns-clause-len : goal.returns-clause-len
returns-clause-len g c = λ xs ys s. length-shuffled xs ys s

pub returns-clause-permutation : goal.returns-clause-permutation
returns-clause-permutation g c = λ xs ys s. permutation_from_shuffled s
