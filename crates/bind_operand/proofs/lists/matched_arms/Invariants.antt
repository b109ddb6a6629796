use Rattle.std.proofs.Common.{◌≡◌, ◌++◌, map, reverse, length}
use Rattle.sql_bound.specs.Operands.{matched_arm}
use Rattle.bind_operand.proofs.lists.matched_arms.Given as goal

abbrev pub invariant-loop-arm : goal.invariant-loop-arm
invariant-loop-arm l = l.made ++ map (matched_arm l.a) (reverse l.rest) ≡ map (matched_arm l.a) l.fn.arms

abbrev pub decreases-loop-arm : goal.decreases-loop-arm
decreases-loop-arm l = length l.rest
