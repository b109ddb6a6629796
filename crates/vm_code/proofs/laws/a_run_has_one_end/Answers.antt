use Rattle.vm_code.proofs.Given.{one_end}
use Rattle.vm_code.proofs.laws.a_run_has_one_end.Goals as goal

pub returns : goal.returns
returns c = one_end
