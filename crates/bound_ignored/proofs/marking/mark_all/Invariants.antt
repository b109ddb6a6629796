use Rattle.std.proofs.Common.{◌≡◌, ◌++◌, length, map, reverse}
use Rattle.bound_ignored.proofs.marking.mark_all.Given as goal

abbrev pub invariant-loop-one : goal.invariant-loop-one
invariant-loop-one g l = map (g.T.Marking.as_marked l.ignored l.within) l.fn.those ≡ l.those ++ map (g.T.Marking.as_marked l.ignored l.within) (reverse l.rest)

abbrev pub decreases-loop-one : goal.decreases-loop-one
decreases-loop-one g l = length l.rest
