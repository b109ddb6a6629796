use Rattle.std.proofs.Common.{◌≡◌, None, Ok, IfSome, true, subst, sym, ◌∙◌}
use Rattle.std.proofs.lemmas.Result.{err_from_is_err_and}
use Rattle.sql_meaning.proofs.PermitLaws.{permitted-all}
use Rattle.sql_meaning.specs.Built.{is_built}
use Rattle.sql_meaning.specs.Permits.{asked_by}
use Rattle.sql_meaning.specs.Running.{runnable_of}
use Rattle.bind_stmt.specs.Binds.{AnswersBy, Binds, IsBound}
use Rattle.bind_stmt.specs.declared.statement.Bound.TheVariants as bound
use Rattle.bind_stmt.proofs.Whole.{bound_so, no-memory, not_built, refused}
use Rattle.bind_stmt.proofs.statement.bind.Goals as goal

pub returns-then-not-is_built : goal.returns-then-not-is_built
returns-then-not-is_built c number =
    not_built (asked_by None) c.args.catalog.now number c.args.text.now c.args.statement.now (sym c.is_built.ensures ∙ c.if-not-is_built.true)

pub returns-in_err-insert : goal.returns-in_err-insert
returns-in_err-insert c number =
    let why = err_from_is_err_and c.from_residual.result c.from_residual.ensures.1 in
    rw (why.1, why.2) (no-memory (asked_by None) c.args.catalog.now number c.args.text.now c.args.statement.now)

pub returns-in-Some : goal.returns-in-Some
returns-in-Some c number =
    subst (λ found. IfSome found (λ b. Binds (asked_by None) c.args.catalog.now number c.args.text.now c.args.statement.now (Ok (bound.Insert b)))) c.in-Some.is (c.in_ok-insert.ensures number)

pub returns-in_err-bound : goal.returns-in_err-bound
returns-in_err-bound c number =
    let built : is_built c.args.text.now c.args.statement.now ≡ true = sym c.is_built.ensures ∙ c.if-not-is_built.false in
    let why = err_from_is_err_and c.from_residual-in_err-bound.result c.from_residual-in_err-bound.ensures.1 in
    rw (why.1, why.2) (refused (asked_by None) c.args.catalog.now number c.args.text.now c.args.statement.now c.in_err-bound.field-0.0 built c.in_err-bound.ensures)

pub returns : goal.returns
returns c number =
    let built : is_built c.args.text.now c.args.statement.now ≡ true = sym c.is_built.ensures ∙ c.if-not-is_built.false in
    let b = c.in_ok-bound.bound in
    bound_so (asked_by None) c.args.catalog.now number c.args.text.now c.args.statement.now b b c.runnable.result c.requires.untriggered built c.in_ok-bound.ensures (permitted-all b)
    (subst (λ ts. AnswersBy IsBound (runnable_of ts number c.args.text.now c.args.statement.now b) c.runnable.result) c.requires.tables (c.runnable.ensures number))
