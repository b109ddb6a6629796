-- Nothing is lent that a program names, so that each host that it names tells.
use Rattle.std.proofs.Common.{◌≡◌, Option, subst}
use Rattle.eng_value.specs.HostMeanings.{HostMeanings}
use Rattle.eng_value.specs.declared.authorizing.Action.{Action}
use Rattle.eng_value.specs.declared.authorizing.Verdict.{Verdict}
use Rattle.vm_code.specs.declared.program.Program.{Program}
use Rattle.vm_code.specs.Honesty.{ProgramIsTold}
use Rattle.vm_core.proofs.Honesty.{told_beside}
use Rattle.vm_core.specs.Meant.{authorized}

pub all_told : {told : Option (Option (Action → Verdict))} (means : HostMeanings) (p : Program) → authorized told ≡ means → ProgramIsTold means p
all_told {told} means p is = subst (λ m. ProgramIsTold m p) is (told_beside told p)
