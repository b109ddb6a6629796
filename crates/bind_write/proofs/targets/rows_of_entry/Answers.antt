use Rattle.std.proofs.Common.{ap, sym, []}
use Rattle.bind_query.specs.Scopes.{around_of, outer_of}
use Rattle.bind_query.specs.Where.{Where}
use Rattle.bind_write.proofs.StepLaws.{table-of}
use Rattle.bind_write.proofs.targets.rows_of_entry.Goals as goal

pub returns-in-Table : goal.returns-in-Table
returns-in-Table c =
    table-of c.args.scope.now c.args.name.now c.args.entry.now c.args.work.now c.in-Table.is c.of_table.result
    (c.of_table.ensures (outer_of c.args.scope.now [] []) (sym (ap (λ (w : Where). around_of w) c.scope.view_is)))
