use Rattle.vm_code.specs.Track.{needs_of}
use Rattle.vm_check.proofs.Rules.{same_test}
use Rattle.vm_check.proofs.instructions.are_met.Goals as goal

pub returns : goal.returns
returns c = same_test c.args.open.now (needs_of c.args.op.now) c.needs_are_met.result c.needs_are_met.ensures.met c.needs_are_met.ensures.lacking
