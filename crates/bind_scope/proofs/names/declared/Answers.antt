use Rattle.std.proofs.Common.{arith, rules}
use Rattle.sql_bound.specs.Scopes.{columns_named}
use Rattle.bind_scope.proofs.SightLaws.{first_of-there}
use Rattle.bind_scope.proofs.names.declared.Goals as goal

pub returns-in-Some : goal.returns-in-Some
returns-in-Some c =
    first_of-there (columns_named c.args.name.now) c.args.own.now c.loop-item.item-index c.item-item.result c.in-Some.column.now _ (omega arith) c.item-item.is
    c.loop-item.invariant (search rules)
