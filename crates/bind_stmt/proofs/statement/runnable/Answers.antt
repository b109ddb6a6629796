use Rattle.std.proofs.Common.{ap, subst, sym}
use Rattle.sql_meaning.specs.Runnables.{DoesNothing}
use Rattle.bind_stmt.specs.Binds.{AnswersBy, IsBound}
use Rattle.sql_meaning.specs.Running.{command_of}
use Rattle.bind_stmt.proofs.statement.runnable.Goals as goal

pub returns-in-Created : goal.returns-in-Created
returns-in-Created c number =
    let s = c.args.statement.now in
    subst (λ k. AnswersBy IsBound (command_of c.args.tables.now number c.args.text.now s c.args.bound.units k) c.created.result) (sym c.in-Created.is) (c.created.ensures number)

pub returns-in-Pragma : goal.returns-in-Pragma
returns-in-Pragma c number = (DoesNothing, ap (command_of c.args.tables.now number c.args.text.now c.args.statement.now c.args.bound.units) c.in-Pragma.is, tt)

pub returns-in-Nothing : goal.returns-in-Nothing
returns-in-Nothing c number = (DoesNothing, ap (command_of c.args.tables.now number c.args.text.now c.args.statement.now c.args.bound.units) c.in-Nothing.is, tt)
