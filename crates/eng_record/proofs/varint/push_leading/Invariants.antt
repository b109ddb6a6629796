use Rattle.std.proofs.Common.{◌≡◌, ◌++◌, ◌-◌, ◌%◌, ◌^◌}
use Rattle.eng_record.specs.Spelling.{leading}
use Rattle.eng_record.proofs.varint.push_leading.Given as goal

abbrev pub invariant-loop-written : goal.invariant-loop-written
invariant-loop-written l = l.out.items ++ leading (l.count - l.written) (l.n % 128 ^ (l.count - l.written)) ≡ l.fn.out.items ++ leading l.count l.n
