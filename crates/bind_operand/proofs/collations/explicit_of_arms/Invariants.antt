use Rattle.std.proofs.Common.{◌≡◌, drop}
use Rattle.sql_bound.specs.Operands.{arm_parts, first_explicit}
use Rattle.bind_operand.proofs.collations.explicit_of_arms.Given as goal

abbrev pub invariant-loop-arm : goal.invariant-loop-arm
invariant-loop-arm l = first_explicit (arm_parts (drop l.arm-index l.arms)) ≡ first_explicit (arm_parts l.arms)
