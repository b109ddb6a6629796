use Rattle.std.proofs.Common.{◌≡◌, length}
use Rattle.eng_record.specs.Reading.{types_in}
use Rattle.eng_record.proofs.ReadingLoops.{with_types}
use Rattle.eng_record.proofs.reading.types_of.Given as goal

abbrev pub invariant-loop-rest : goal.invariant-loop-rest
invariant-loop-rest l = with_types l.kinds.items (types_in (length l.rest) l.rest) ≡ types_in (length l.bytes) l.bytes

abbrev pub decreases-loop-rest : goal.decreases-loop-rest
decreases-loop-rest l = length l.rest
