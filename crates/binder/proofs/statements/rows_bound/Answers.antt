use Rattle.std.proofs.Common.{[]}
use Rattle.bind_query.specs.Scopes.{outer_of}
use Rattle.binder.proofs.CommandLaws.{rows-by}
use Rattle.binder.proofs.statements.rows_bound.Goals as goal

pub returns-in-Insert : goal.returns-in-Insert
returns-in-Insert c = rows-by (outer_of c.args.scope.now [] []) c.args.rows.now _ c.insert_bound.result c.in-Insert.is c.insert_bound.ensures

pub returns-in-Update : goal.returns-in-Update
returns-in-Update c = rows-by (outer_of c.args.scope.now [] []) c.args.rows.now _ c.update_bound.result c.in-Update.is c.update_bound.ensures

pub returns-in-Delete : goal.returns-in-Delete
returns-in-Delete c = rows-by (outer_of c.args.scope.now [] []) c.args.rows.now _ c.delete_bound.result c.in-Delete.is c.delete_bound.ensures
