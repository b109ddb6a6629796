-- Where nothing is lent but an authorizer, every program is told, since no instruction names it.
use Rattle.std.proofs.Common.{Option, Some, None, get_or}
use Rattle.eng_value.specs.HostMeanings.{HostName, Scalar, Aggregate, CollationAt, Module, Tells}
use Rattle.eng_value.specs.declared.authorizing.Action.{Action}
use Rattle.eng_value.specs.declared.authorizing.Verdict.{Verdict}
use Rattle.vm_code.specs.declared.op.Op.{Op}
use Rattle.vm_code.specs.declared.program.Program.{Program}
use Rattle.vm_code.specs.declared.program.Unit.{Unit}
use Rattle.vm_code.specs.Honesty.{NumberIsTold, OpIsTold, ProgramIsTold, UnitIsTold, hosts_named_in}
use Rattle.vm_core.specs.Meant.{authorized}

module _ (told : Option (Option (Action → Verdict))) where
  names_told : (name : HostName) → Tells (authorized told) name
  names_told (Scalar name) = tt
  names_told (Aggregate name) = tt
  names_told (CollationAt place) = tt
  names_told (Module name) = tt

  ops_told : (o : Op) → OpIsTold (authorized told) o
  ops_told o k d h = names_told (get_or (hosts_named_in o) k d)

  units_told : (x : Unit) → UnitIsTold (authorized told) x
  units_told x k d h = ops_told (get_or x.code k d)

  numbers_told : (x : Option Unit) → NumberIsTold (authorized told) x
  numbers_told None = tt
  numbers_told (Some x) = units_told x

  pub told_beside : (p : Program) → ProgramIsTold (authorized told) p
  told_beside p = record { main = units_told p.main; units = λ k d h. numbers_told (get_or p.units k d) }
