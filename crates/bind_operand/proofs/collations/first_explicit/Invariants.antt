use Rattle.std.proofs.Common.{◌≡◌, drop}
use Rattle.sql_bound.specs.Operands.{first_explicit}
use Rattle.bind_operand.proofs.collations.first_explicit.Given as goal

abbrev pub invariant-loop-a : goal.invariant-loop-a
invariant-loop-a l = first_explicit (drop l.a-index l.operands) ≡ first_explicit l.operands
