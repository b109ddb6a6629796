use Rattle.vm_core.proofs.OperandLaws.{none_there}
use Rattle.vm_core.proofs.operands.lent.Goals as goal

pub returns-in-None : goal.returns-in-None
returns-in-None c = none_there c.args.registers.now c.args.register c.in-None.ensures
