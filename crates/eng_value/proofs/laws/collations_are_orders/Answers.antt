use Rattle.eng_value.proofs.CollationLaws.{compare_total, same_keyed, equal_keyed, same_binary, equal_binary}
use Rattle.eng_value.proofs.laws.collations_are_orders.Goals as goal

pub returns-clause-order : goal.returns-clause-order
returns-clause-order c = compare_total

pub returns-clause-keys : goal.returns-clause-keys
returns-clause-keys c = same_keyed

pub returns-clause-equal : goal.returns-clause-equal
returns-clause-equal c = equal_keyed

pub returns-clause-binary : goal.returns-clause-binary
returns-clause-binary c = same_binary

pub returns-clause-others : goal.returns-clause-others
returns-clause-others c = equal_binary
