use Rattle.std.proofs.Common.{subst, true, []}
use Rattle.bind_query.specs.Scopes.{around_of, outer_of}
use Rattle.bind_target.specs.Meant.{opened_meant}
use Rattle.bind_write.specs.Parts.{update_parts}
use Rattle.bind_write.proofs.OpenLaws.{opening-all}
use Rattle.sql_bound.specs.Answers.{Comes}
use Rattle.sql_bound.specs.Scopes.{begun}
use Rattle.sql_bound.specs.Writes.{Opening, update_begun, write_bound}
use Rattle.bind_write.proofs.firing.bind_update.Goals as goal

pub returns : goal.returns
returns c =
    subst
    (λ (op : Opening). Comes (write_bound op (around_of c.args.scope.now) true (update_begun (outer_of c.args.scope.now [] []) (update_parts c.args.update.now) (begun c.args.opened.now.units)) (opened_meant c.args.opened.now)) c.update_with.result (opened_meant c.update_with.new.opened))
    (opening-all (around_of c.args.scope.now) c.all_left.result c.all_left.ensures) c.update_with.ensures
