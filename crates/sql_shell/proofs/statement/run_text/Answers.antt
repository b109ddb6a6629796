use Rattle.std.proofs.Common.{◌++◌, ◌-◌, IfOk, refl, ◌∙◌, ap, subst, arith}
use Rattle.sql_shell.specs.Running.{CameTo}
use Rattle.sql_shell.specs.Taken.{rows_of}
use Rattle.vm_core.specs.Meant.{meant}
use Rattle.sql_shell.proofs.Causes.{came_refused, came_whole, done_good, refused_good}
use Rattle.sql_shell.proofs.statement.run_text.Goals as goal

pub returns-in-Ok-clause-came : goal.returns-in-Ok-clause-came
returns-in-Ok-clause-came g c =
    let h = meant (λ b. (goal.Authorizer-dyn g (b.vtable, b.value)).verdicts b.value) c.args.hosts.now in
    let budget = c.args.connection.now.budget in
    let s = c.args.connection.now.state in
    let text = c.args.text.now in
    let ran = c.run.new.steps - c.args.steps.now in
    subst (λ x. IfOk c.into_given.result (λ e. CameTo x budget s text (rows_of e.rows) e.failure ran c.run.new.self.state)) c.requires.told
    (came_whole h budget s text (rows_of c.run.new.rows.taken) ran c.run.new.self.state (omega (arith, c.run.ensures.within)) (λ told. let few = c.run.ensures.bound told in omega arith)
    c.into_given.result c.in-Ok.ensures.done
    (λ told. let rows = c.in-Ok.ensures.rows told in (rows.0, rows.1, rows.2 ∙ ap (λ xs. xs ++ rows.0) c.new-rows.ensures))
    c.in-Ok.ensures.next c.into_given.ensures.rows c.into_given.ensures.failure)

pub returns-in-Err-clause-came : goal.returns-in-Err-clause-came
returns-in-Err-clause-came g c =
    let h = meant (λ b. (goal.Authorizer-dyn g (b.vtable, b.value)).verdicts b.value) c.args.hosts.now in
    let budget = c.args.connection.now.budget in
    let s = c.args.connection.now.state in
    let text = c.args.text.now in
    let ran = c.run.new.steps - c.args.steps.now in
    subst (λ x. IfOk c.refused.result (λ e. CameTo x budget s text (rows_of e.rows) e.failure ran c.run.new.self.state)) c.requires.told
    (came_refused h budget s text (rows_of c.run.new.rows.taken) ran c.run.new.self.state (omega (arith, c.run.ensures.within)) (λ told. let few = c.run.ensures.bound told in omega arith)
    c.in-Err.refusal.cause (rows_of c.new-rows.result.taken) (rows_of c.run.new.rows.taken) c.refused.result
    c.new-rows.ensures refl c.run.ensures.front c.in-Err.ensures.cause c.refused.ensures.rows c.refused.ensures.failure c.refused.ensures.other)

pub returns-in-Ok-clause-characters : goal.returns-in-Ok-clause-characters
returns-in-Ok-clause-characters g c = done_good c.into_given.result c.into_given.ensures.failure

pub returns-in-Err-clause-characters : goal.returns-in-Err-clause-characters
returns-in-Err-clause-characters g c = refused_good c.refused.result c.in-Err.refusal.cause c.refused.ensures.failure

pub returns-in-Ok-clause-bound : goal.returns-in-Ok-clause-bound
returns-in-Ok-clause-bound g c = rw (← c.requires.told) c.run.ensures.bound

pub returns-in-Err-clause-bound : goal.returns-in-Err-clause-bound
returns-in-Err-clause-bound g c = rw (← c.requires.told) c.run.ensures.bound
