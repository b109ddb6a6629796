use Rattle.std.proofs.Common.{◌≡◌, take}
use Rattle.std.specs.List.{flat_map}
use Rattle.vm_code.specs.Track.{operand_spans, room_for}
use Rattle.vm_code.proofs.room.operands_room.Given as goal

abbrev pub invariant-loop-operand : goal.invariant-loop-operand
invariant-loop-operand l = l.room ≡ room_for (flat_map operand_spans (take l.operand-index l.operands))
