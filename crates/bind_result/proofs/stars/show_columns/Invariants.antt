use Rattle.std.proofs.Common.{◌≡◌, reverse, length}
use Rattle.bind_result.specs.Shows.{columns_put}
use Rattle.bind_result.proofs.stars.show_columns.Given as goal

abbrev pub invariant-loop-column : goal.invariant-loop-column
invariant-loop-column l = columns_put l.grouped l.keys l.own l.fn.columns l.fn.shown ≡ columns_put l.grouped l.keys l.own (reverse l.rest) l.shown

abbrev pub decreases-loop-column : goal.decreases-loop-column
decreases-loop-column l = length l.rest
