use Rattle.std.proofs.Common.{arith}
use Rattle.parse_query.proofs.CompoundSteps.{union_is}
use Rattle.parse_query.proofs.compounds.union_word.Goals as goal

pub returns-in_err-expect : goal.returns-in_err-expect
returns-in_err-expect c = grind (arith, union_is)

pub returns-then-branch : goal.returns-then-branch
returns-then-branch c = grind (arith, union_is)

pub returns : goal.returns
returns c = grind (arith, union_is)

pub returns-in_err-given_word : goal.returns-in_err-given_word
returns-in_err-given_word c = grind (arith, union_is)
