use Rattle.gen_expr.proofs.Deciding.{and_decided, or_decided}
use Rattle.gen_expr.proofs.parts.deciding.Goals as goal

pub returns-in-And-clause-decided : goal.returns-in-And-clause-decided
returns-in-And-clause-decided c = rw c.in-And.is and_decided

pub returns-in-Or-clause-decided : goal.returns-in-Or-clause-decided
returns-in-Or-clause-decided c = rw c.in-Or.is or_decided
