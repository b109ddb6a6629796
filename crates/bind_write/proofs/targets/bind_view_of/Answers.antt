use Rattle.std.proofs.Common.{rules}
use Rattle.bind_write.proofs.StepLaws.{view-of}
use Rattle.bind_write.proofs.targets.bind_view_of.Goals as goal

pub returns-in-Some : goal.returns-in-Some
returns-in-Some c = view-of c.args.scope.now c.args.name.now c.args.entry.now c.args.work.now c.in-Some.view.now (search rules) c.bind_view.result c.bind_view.new.work c.bind_view.ensures
