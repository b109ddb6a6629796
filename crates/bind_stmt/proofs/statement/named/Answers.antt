use Rattle.std.proofs.Common.{subst}
use Rattle.sql_bound.specs.Scopes.{Facts}
use Rattle.sql_bound.specs.Statements.{bound_of}
use Rattle.sql_bound.specs.Answers.{Answers}
use Rattle.bind_stmt.proofs.statement.named.Goals as goal

pub returns : goal.returns
returns c =
    subst (λ (f : Facts). Answers (bound_of (record { catalog = c.args.catalog.now; facts = f }) c.args.text.now c.args.statement.now) c.bind.result) c.nobody_tells-facts.ensures c.bind.ensures
