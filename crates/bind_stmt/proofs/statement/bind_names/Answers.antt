use Rattle.std.proofs.Common.{◌≡◌, inr, true, Bool, subst, sym, ap, ◌∙◌}
use Rattle.sql_bound.specs.Statements.{bound_of}
use Rattle.sql_meaning.specs.Built.{is_built}
use Rattle.sql_meaning.specs.Running.{if_built}
use Rattle.sql_meaning.specs.Statement.{around}
use Rattle.sql_bound.specs.Answers.{Answers}
use Rattle.bind_stmt.proofs.statement.bind_names.Goals as goal

pub returns-then-not-is_built : goal.returns-then-not-is_built
returns-then-not-is_built c =
    let meant = bound_of (around c.args.catalog.now) c.args.body.now c.args.statement.now in inr (ap (λ (t : Bool). if_built t meant) (sym c.is_built.ensures ∙ c.if-not-is_built.true))

pub returns : goal.returns
returns c =
    let meant = bound_of (around c.args.catalog.now) c.args.body.now c.args.statement.now in
    let built : is_built c.args.body.now c.args.statement.now ≡ true = sym c.is_built.ensures ∙ c.if-not-is_built.false in
    subst (λ (t : Bool). Answers (if_built t meant) c.named.result) (sym built) c.named.ensures
