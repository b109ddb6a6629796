use Rattle.std.proofs.Common.{◌≡◌, None, [], Option, subst, sym, arith}
use Rattle.std.proofs.lemmas.Grind.{common_steps}
use Rattle.std.proofs.lemmas.Result.{err_from_is_err_and}
use Rattle.bind_stmt.specs.Binds.{AnswersBy, Binds, IsBound}
use Rattle.bind_stmt.proofs.Whole.{names-refused}
use Rattle.eng_value.specs.declared.authorizing.Action.{Action}
use Rattle.eng_value.specs.declared.authorizing.Verdict.{Verdict}
use Rattle.sql_meaning.specs.Permits.{Ignores, asked_as}
use Rattle.sql_meaning.specs.Running.{runnable_of}
use Rattle.vm_core.specs.Meant.{meant}
use Rattle.bind_asked.proofs.AskedLaws.{permit-binds, permit-refused}
use Rattle.bind_asked.proofs.binding.bind.Goals as goal

pub returns-then-is_none-clause-binds : goal.returns-then-is_none-clause-binds
returns-then-is_none-clause-binds g c =
    let nobody : (meant (λ b. (goal.Authorizer-dyn g (b.vtable, b.value)).verdicts b.value) c.args.hosts.now).authorizer ≡ None = grind (arith, common_steps) in
    (Ignores [], λ number. subst (λ (told : Option (Option (Action → Verdict))). Binds (asked_as told (Ignores [])) c.args.catalog.now number c.args.text.now c.args.statement.now c.bind.result) (sym nobody) (c.bind.ensures number))

pub returns-in_err-bound-clause-binds : goal.returns-in_err-bound-clause-binds
returns-in_err-bound-clause-binds g c =
    let why = err_from_is_err_and c.from_residual.result c.from_residual.ensures.1 in
    (Ignores [], λ number. rw (why.1, why.2) (names-refused (asked_as (meant (λ b. (goal.Authorizer-dyn g (b.vtable, b.value)).verdicts b.value) c.args.hosts.now).authorizer (Ignores [])) c.args.catalog.now number c.args.text.now c.args.statement.now c.in_err-bound.field-0.0 c.in_err-bound.ensures))

pub returns-in_err-allowed-clause-binds : goal.returns-in_err-allowed-clause-binds
returns-in_err-allowed-clause-binds g c =
    let why = err_from_is_err_and c.from_residual-in_err-allowed.result c.from_residual-in_err-allowed.ensures.1 in
    let said = c.in_err-allowed.ensures.permitted in
    (said.0, λ number. rw (why.1, why.2) (permit-refused (meant (λ b. (goal.Authorizer-dyn g (b.vtable, b.value)).verdicts b.value) c.args.hosts.now).authorizer c.args.catalog.now number c.args.text.now c.args.statement.now c.in_ok-bound.bound said.0 c.in_err-allowed.field-0.0 c.in_ok-bound.ensures said.1))

pub returns-clause-binds : goal.returns-clause-binds
returns-clause-binds g c =
    let said = c.in_ok-allowed.ensures.permitted in (
      said.0,
      λ number. permit-binds (meant (λ b. (goal.Authorizer-dyn g (b.vtable, b.value)).verdicts b.value) c.args.hosts.now).authorizer c.args.catalog.now number c.args.text.now c.args.statement.now c.in_ok-bound.bound c.in_ok-allowed.allowed said.0 c.runnable.result c.requires.untriggered c.in_ok-bound.ensures said.1
          (subst (λ ts. AnswersBy IsBound (runnable_of ts number c.args.text.now c.args.statement.now c.in_ok-allowed.allowed) c.runnable.result) c.requires.tables (c.runnable.ensures number)),
    )
