use Rattle.std.proofs.Common.{◌≡◌, drop}
use Rattle.eng_record.specs.Reading.{bodies_at}
use Rattle.eng_record.proofs.ReadingLoops.{with_values}
use Rattle.eng_record.proofs.reading.values_at.Given as goal

abbrev pub invariant-loop-kind : goal.invariant-loop-kind
invariant-loop-kind l = with_values l.values.items (bodies_at (drop l.kind-index l.kinds) l.rest) ≡ bodies_at l.kinds l.bytes
