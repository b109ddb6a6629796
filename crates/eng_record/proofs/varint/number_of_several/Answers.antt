use Rattle.std.proofs.Common.{sym, ◌∙◌, arith, rules}
use Rattle.std.proofs.lemmas.List.{take_rest}
use Rattle.eng_record.specs.Reading.{number_at}
use Rattle.eng_record.proofs.ReadingLoops.{high_more_fits, number_nothing, number_ends, number_last}
use Rattle.eng_record.proofs.varint.number_of_several.Goals as goal

pub returns-in-empty-clause-exact : goal.returns-in-empty-clause-exact
unfolding number_at
returns-in-empty-clause-exact c = sym c.loop.invariant.same ∙ number_nothing _ _ _ c.in-empty.len_below

pub overflow_mul-result : goal.overflow_mul-result
overflow_mul-result c = omega (arith, high_more_fits c.loop.counter c.loop.high 0 (omega arith) c.loop.invariant.high (omega arith))

pub overflow_add-result : goal.overflow_add-result
overflow_add-result c = omega (arith, high_more_fits c.loop.counter c.loop.high c.from.result (omega arith) c.loop.invariant.high (omega arith))

pub returns-in-len1-up-clause-exact : goal.returns-in-len1-up-clause-exact
unfolding number_at
returns-in-len1-up-clause-exact c =
    sym c.loop.invariant.same ∙ number_ends c.loop.counter c.loop.high c.from.result c.loop.rest.now _ (omega arith) (omega arith) (search rules) (take_rest c.loop.rest.now 1) (omega arith)

pub overflow_mul-high : goal.overflow_mul-high
overflow_mul-high c = omega (arith, high_more_fits c.loop.counter c.loop.high 0 (omega arith) c.loop.invariant.high (omega arith))

pub overflow_add-high : goal.overflow_add-high
overflow_add-high c = omega (arith, high_more_fits c.loop.counter c.loop.high c.from-in-len1-up-2.result (omega arith) c.loop.invariant.high (omega arith))

pub returns-in-empty-rest-clause-exact : goal.returns-in-empty-rest-clause-exact
unfolding number_at
returns-in-empty-rest-clause-exact c = sym c.loop.invariant.same ∙ number_nothing _ _ _ c.in-empty-rest.len_below

pub returns-in-len1-up-rest-clause-exact : goal.returns-in-len1-up-rest-clause-exact
unfolding number_at
returns-in-len1-up-rest-clause-exact c =
    sym c.loop.invariant.same ∙ number_last c.loop.counter c.loop.high c.from-in-len1-up-rest.result c.loop.rest.now _ (omega arith) (omega arith) (search rules) (take_rest c.loop.rest.now 1)
