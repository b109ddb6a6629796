use Rattle.std.proofs.Common.{◌≡◌, ◌++◌, map, reverse, length}
use Rattle.sql_bound.specs.Operands.{chosen_arm}
use Rattle.bind_operand.proofs.lists.chosen_arms.Given as goal

abbrev pub invariant-loop-arm : goal.invariant-loop-arm
invariant-loop-arm l = l.made ++ map chosen_arm (reverse l.rest) ≡ map chosen_arm l.fn.arms

abbrev pub decreases-loop-arm : goal.decreases-loop-arm
decreases-loop-arm l = length l.rest
