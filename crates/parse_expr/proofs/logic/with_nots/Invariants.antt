use Rattle.std.proofs.Common.{◌≡◌, length}
use Rattle.sql_grammar.specs.Grammar.{with_nots}
use Rattle.parse_expr.proofs.logic.with_nots.Given as goal

abbrev pub invariant-loop-operand : goal.invariant-loop-operand
invariant-loop-operand l = with_nots l.fn.nots l.fn.operand ≡ with_nots l.nots l.operand

abbrev pub decreases-loop-operand : goal.decreases-loop-operand
decreases-loop-operand l = length l.nots
