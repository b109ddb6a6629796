use Rattle.std.proofs.Common.{◌≡◌, ◌++◌, take}
use Rattle.eng_record.specs.Spelling.{types_spelled}
use Rattle.eng_record.proofs.writing.push_types.Given as goal

abbrev pub invariant-loop-value : goal.invariant-loop-value
invariant-loop-value l = l.out.items ≡ l.fn.out.items ++ types_spelled (take l.value-index l.row)
