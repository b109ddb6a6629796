use Rattle.std.proofs.Common.{◌≡◌, length, take}
use Rattle.std.specs.List.{flat_map}
use Rattle.eng_record.specs.Spelling.{body}
use Rattle.eng_record.proofs.writing.bodies_len.Given as goal

abbrev pub invariant-loop-value : goal.invariant-loop-value
invariant-loop-value l = l.len ≡ length (flat_map body (take l.value-index l.row))
