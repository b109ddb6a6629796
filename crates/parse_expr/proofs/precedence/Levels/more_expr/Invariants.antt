use Rattle.std.proofs.Common.{◌≡◌, length}
use Rattle.sql_grammar.specs.Rules.{reads}
use Rattle.sql_grammar.specs.Grammar.{Name, more_expr}
use Rattle.sql_grammar.specs.Bodies.{rules}
use Rattle.parse_cursor.specs.Gives.{apply_to}
use Rattle.parse_expr.proofs.precedence.Levels.more_expr.Given as goal

abbrev pub invariant-loop-tokens : goal.invariant-loop-tokens
invariant-loop-tokens g l = apply_to l.fn.left (reads Name rules l.self.operands.depth more_expr l.fn.tokens.counts l.fn.tokens.rest.now) ≡ apply_to l.left (reads Name rules l.self.operands.depth more_expr l.tokens.counts l.tokens.rest.now)

abbrev pub decreases-loop-tokens : goal.decreases-loop-tokens
decreases-loop-tokens g l = length l.tokens.rest.now
