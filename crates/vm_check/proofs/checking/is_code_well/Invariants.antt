use Rattle.std.proofs.Common.{◌≡◌, drop}
use Rattle.vm_check.specs.Tests.{is_code_well}
use Rattle.vm_check.proofs.checking.is_code_well.Given as goal

abbrev pub invariant-loop-place : goal.invariant-loop-place
invariant-loop-place l = is_code_well l.program l.unit 0 l.unit.code ≡ is_code_well l.program l.unit l.place (drop l.place l.unit.code)
