use Rattle.std.proofs.Common.{◌≡◌, drop}
use Rattle.sql_bound.specs.Operands.{first_collation}
use Rattle.bind_operand.proofs.collations.first_collation.Given as goal

abbrev pub invariant-loop-a : goal.invariant-loop-a
invariant-loop-a l = first_collation (drop l.a-index l.operands) ≡ first_collation l.operands
