use Rattle.std.proofs.Common.{arith}
use Rattle.std.proofs.lemmas.Grind.{common_steps}
use Rattle.bind_name.proofs.quotes.past_second.Goals as goal

pub returns-in-len1-up-clause-undoubled : goal.returns-in-len1-up-clause-undoubled
returns-in-len1-up-clause-undoubled c = grind (arith, common_steps)

pub returns-in_default-clause-undoubled : goal.returns-in_default-clause-undoubled
returns-in_default-clause-undoubled c = grind (arith, common_steps)

pub returns-in_default-2-clause-undoubled : goal.returns-in_default-2-clause-undoubled
returns-in_default-2-clause-undoubled c = grind (arith, common_steps)

pub returns-in_default-3-clause-undoubled : goal.returns-in_default-3-clause-undoubled
returns-in_default-3-clause-undoubled c = grind (arith, common_steps)
