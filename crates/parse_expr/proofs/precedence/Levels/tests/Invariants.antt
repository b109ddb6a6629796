use Rattle.std.proofs.Common.{◌≡◌, length}
use Rattle.sql_grammar.specs.Rules.{reads}
use Rattle.sql_grammar.specs.Grammar.{Name, tests}
use Rattle.sql_grammar.specs.Bodies.{rules}
use Rattle.parse_cursor.specs.Gives.{apply_to}
use Rattle.parse_expr.proofs.precedence.Levels.tests.Given as goal

abbrev pub invariant-loop-tokens : goal.invariant-loop-tokens
invariant-loop-tokens g l = apply_to l.fn.left (reads Name rules l.self.operands.depth tests l.fn.tokens.counts l.fn.tokens.rest.now) ≡ apply_to l.left (reads Name rules l.self.operands.depth tests l.tokens.counts l.tokens.rest.now)

abbrev pub decreases-loop-tokens : goal.decreases-loop-tokens
decreases-loop-tokens g l = length l.tokens.rest.now
