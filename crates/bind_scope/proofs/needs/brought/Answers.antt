use Rattle.std.proofs.Common.{rules}
use Rattle.bind_scope.proofs.NeedLaws.{brought-further}
use Rattle.bind_scope.proofs.needs.brought.Goals as goal

pub returns-in-Some : goal.returns-in-Some
returns-in-Some c = rw (brought-further c.args.up c.in-Some.up c.args.tree c.args.work.now (search rules)) c.needed.ensures
