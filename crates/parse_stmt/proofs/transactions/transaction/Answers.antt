use Rattle.std.proofs.Common.{arith}
use Rattle.parse_stmt.proofs.Transacted.{transactions}
use Rattle.parse_stmt.proofs.transactions.transaction.Goals as goal

pub returns-then-sees : goal.returns-then-sees
returns-then-sees c = grind (arith, transactions)

pub returns-then-sees_any : goal.returns-then-sees_any
returns-then-sees_any c = grind (arith, transactions)

pub returns-then-sees-2 : goal.returns-then-sees-2
returns-then-sees-2 c = grind (arith, transactions)

pub returns-then-sees-3 : goal.returns-then-sees-3
returns-then-sees-3 c = grind (arith, transactions)

pub returns : goal.returns
returns c = grind (arith, transactions)
