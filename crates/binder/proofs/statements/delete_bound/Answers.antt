use Rattle.std.proofs.Common.{[]}
use Rattle.bind_query.specs.Scopes.{around_of, outer_of}
use Rattle.bind_write.specs.Parts.{delete_parts}
use Rattle.binder.proofs.CommandLaws.{written-by}
use Rattle.sql_bound.specs.Scopes.{begun}
use Rattle.sql_bound.specs.Writes.{delete_begun}
use Rattle.binder.proofs.statements.delete_bound.Goals as goal

pub returns : goal.returns
returns c =
    written-by (around_of c.args.scope.now) (λ units. delete_begun (outer_of c.args.scope.now [] []) (delete_parts c.args.delete.now) (begun units)) c.nothing_opened-opened.result c.with_opened.result
    c.nothing_opened-opened.ensures (c.with_opened.ensures _ c.bind_delete-write.ensures)
