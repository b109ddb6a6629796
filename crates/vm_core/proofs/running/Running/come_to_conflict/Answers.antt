use Rattle.std.proofs.Common.{[], ap, sym, ◌∙◌}
use Rattle.vm_code.specs.Machine.{conflicted_to, jump}
use Rattle.vm_core.specs.Paused.{state_at}
use Rattle.vm_core.proofs.SearchLaws.{none_there}
use Rattle.vm_core.proofs.Steps.{acts_as}
use Rattle.vm_core.proofs.running.Running.come_to_conflict.Goals as goal

pub returns-in-None : goal.returns-in-None
returns-in-None c = λ row is e w.
    let old = c.args.self.now in
    acts_as c.go_to.result e old w c.go_to.new.self w (λ s. jump s c.args.target) (λ s. conflicted_to s c.args.cursor c.args.target c.args.table row)
    (sym (ap (conflicted_to (state_at old w []) c.args.cursor c.args.target c.args.table) (none_there row (is ∙ c.in-None.is))))
    (c.go_to.ensures e w)
