use Rattle.std.proofs.Common.{length}
use Rattle.eng_key.proofs.RowKeyLaws.{IsSpelled}
use Rattle.eng_key.proofs.row_key.key.Given as goal

abbrev pub invariant-loop-value : goal.invariant-loop-value
invariant-loop-value l = IsSpelled l.row l.by (length l.yielded) l.key.items
