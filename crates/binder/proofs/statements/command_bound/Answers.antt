use Rattle.binder.proofs.CommandLaws.{command-rows}
use Rattle.binder.proofs.statements.command_bound.Goals as goal

pub returns-in-Rows : goal.returns-in-Rows
returns-in-Rows c =
    command-rows c.args.catalog.now c.args.facts.now c.args.text.now c.args.command.now _ c.of_text-scope.result c.rows_bound.result c.in-Rows.is c.of_text-scope.ensures c.rows_bound.ensures
