use Rattle.std.proofs.Common.{◌≡◌, ◌+◌, ◌*◌, length}
use Rattle.sql_grammar.specs.Rules.{reads}
use Rattle.sql_grammar.specs.Grammar.{Name}
use Rattle.sql_grammar.specs.Bodies.{rules}
use Rattle.parse_cursor.specs.Gives.{apply_to}
use Rattle.parse_expr.specs.Parts.{behind, joined}
use Rattle.parse_expr.proofs.precedence.Levels.+levels.Given as goal

abbrev pub decreases-behind : goal.decreases-behind
decreases-behind g l = 2 * l.level

abbrev pub decreases-operand : goal.decreases-operand
decreases-operand g l = 2 * l.level + 1

abbrev pub invariant-behind-loop-signs : goal.invariant-behind-loop-signs
invariant-behind-loop-signs g l = behind l.self.operands.depth l.fn.level l.fn.left l.fn.tokens.counts l.fn.tokens.rest.now ≡ apply_to l.joined (reads Name rules l.self.operands.depth (joined l.below) l.tokens.counts l.tokens.rest.now)

abbrev pub decreases-behind-loop-signs : goal.decreases-behind-loop-signs
decreases-behind-loop-signs g l = length l.tokens.rest.now
