use Rattle.std.proofs.Common.{sym, ◌∙◌}
use Rattle.vm_code.specs.Track.{needs_of}
use Rattle.vm_code.proofs.Meeting.{all_met, none_lacks}
use Rattle.vm_code.proofs.op.Op.needs_are_met.Goals as goal

pub returns-clause-met : goal.returns-clause-met
returns-clause-met c e = all_met c.args.open.now (needs_of c.args.self.now) (sym c.finds.ensures ∙ e)

pub returns-clause-lacking : goal.returns-clause-lacking
returns-clause-lacking c e all = none_lacks c.args.open.now (needs_of c.args.self.now) (sym c.finds.ensures ∙ e) all
