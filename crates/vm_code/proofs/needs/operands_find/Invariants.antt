use Rattle.std.proofs.Common.{◌≡◌, take}
use Rattle.std.specs.List.{flat_map, list_all}
use Rattle.vm_code.specs.Needs.{meets}
use Rattle.vm_code.specs.Track.{operand_needs}
use Rattle.vm_code.proofs.needs.operands_find.Given as goal

abbrev pub invariant-loop-operand : goal.invariant-loop-operand
invariant-loop-operand l = l.found ≡ list_all (meets l.open) (flat_map operand_needs (take l.operand-index l.operands))
