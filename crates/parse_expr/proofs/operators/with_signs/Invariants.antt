use Rattle.std.proofs.Common.{◌≡◌, length}
use Rattle.sql_grammar.specs.Grammar.{with_signs}
use Rattle.parse_expr.proofs.operators.with_signs.Given as goal

abbrev pub invariant-loop-sign : goal.invariant-loop-sign
invariant-loop-sign l = with_signs l.fn.signs l.fn.operand ≡ with_signs l.signs l.operand

abbrev pub decreases-loop-sign : goal.decreases-loop-sign
decreases-loop-sign l = length l.signs
