use Rattle.std.proofs.Common.{◌≡◌, ◌++◌, filter, take}
use Rattle.bind_column.specs.Stars.{shown_so}
use Rattle.bind_column.proofs.stars.add_shown.Given as goal

abbrev pub invariant-loop-column : goal.invariant-loop-column
invariant-loop-column l = l.shown ≡ l.fn.shown ++ filter (shown_so l.called) (take l.column-index l.columns)
