use Rattle.vm_code.proofs.Runs.{after_add}
use Rattle.vm_code.proofs.laws.runs_add_up.Goals as goal

pub returns : goal.returns
returns c = after_add
