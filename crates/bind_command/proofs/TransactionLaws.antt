-- A transaction by its kind.
use Rattle.std.proofs.Common.{◌≡◌, Result, sym, subst}
use Rattle.bound_tree.specs.declared.statements.BoundCommand.{BoundCommand}
use Rattle.eng_value.specs.declared.cause.Cause.{Cause}
use Rattle.sql_bound.specs.Answers.{Answers}
use Rattle.sql_bound.specs.Scopes.{Outer}
use Rattle.sql_bound.specs.Statements.{transaction_bound}
use Rattle.sql_tree.specs.declared.statement.Transaction.{Transaction}

pub by-kind : (o : Outer) (t u : Transaction) (r : Result BoundCommand Cause) → t ≡ u → Answers (transaction_bound o u) r → Answers (transaction_bound o t) r
by-kind o t u r is h = subst (λ x. Answers (transaction_bound o x) r) (sym is) h
