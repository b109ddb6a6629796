use Rattle.std.proofs.Common.{Ok, subst}
use Rattle.bind_stmt.specs.Binds.{BindsTo}
use Rattle.bind_stmt.specs.declared.statement.Bound.{Bound}
use Rattle.sql_meaning.specs.Statement.{plain_bound}
use Rattle.sql_tree.specs.Sizes.{size_of_statement}
use Rattle.engine.proofs.preparing.readied.Goals as goal

pub returns-in-CreateTable : goal.returns-in-CreateTable
returns-in-CreateTable c lists entries many asked binds =
    let size = size_of_statement c.args.statement in
    let meant = plain_bound asked entries c.args.number c.args.body.now c.args.statement in
    c.created.ensures lists entries many asked (subst (λ (b : Bound). BindsTo size meant (Ok b)) c.in-CreateTable.is binds)

pub returns-in-CreateIndex : goal.returns-in-CreateIndex
returns-in-CreateIndex c lists entries many asked binds =
    let size = size_of_statement c.args.statement in
    let meant = plain_bound asked entries c.args.number c.args.body.now c.args.statement in
    c.indexed.ensures c.args.number entries asked (subst (λ (b : Bound). BindsTo size meant (Ok b)) c.in-CreateIndex.is binds)
