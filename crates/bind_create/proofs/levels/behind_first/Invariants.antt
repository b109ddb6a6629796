use Rattle.std.proofs.Common.{◌≡◌, ◌++◌, [], reverse, length}
use Rattle.sql_bound.specs.Creates.{behind_first}
use Rattle.bind_create.specs.Levels.{names_of}
use Rattle.bind_create.proofs.levels.behind_first.Given as goal

abbrev pub invariant-loop-column : goal.invariant-loop-column
invariant-loop-column l = l.made ++ behind_first (names_of l.made) (reverse l.rest) ≡ behind_first [] l.fn.columns

abbrev pub decreases-loop-column : goal.decreases-loop-column
decreases-loop-column l = length l.rest
