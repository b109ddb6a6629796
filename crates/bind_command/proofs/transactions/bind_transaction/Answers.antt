use Rattle.bind_command.specs.Tops.{top_of}
use Rattle.bind_command.proofs.TransactionLaws.{by-kind}
use Rattle.bind_command.proofs.transactions.bind_transaction.Goals as goal

pub returns-in-RollbackTo : goal.returns-in-RollbackTo
returns-in-RollbackTo c =
    by-kind (top_of c.args.catalog.now c.args.facts.now c.args.text.now) c.args.transaction.now _ c.rolls_back_to.result c.in-RollbackTo.is (c.rolls_back_to.ensures c.args.catalog.now)

pub returns-in-Savepoint : goal.returns-in-Savepoint
returns-in-Savepoint c =
    by-kind (top_of c.args.catalog.now c.args.facts.now c.args.text.now) c.args.transaction.now _ c.saves.result c.in-Savepoint.is (c.saves.ensures c.args.catalog.now c.args.facts.now)

pub returns-in-Release : goal.returns-in-Release
returns-in-Release c =
    by-kind (top_of c.args.catalog.now c.args.facts.now c.args.text.now) c.args.transaction.now _ c.releases.result c.in-Release.is (c.releases.ensures c.args.catalog.now)
