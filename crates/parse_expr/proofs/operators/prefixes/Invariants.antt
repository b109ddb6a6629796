use Rattle.std.proofs.Common.{ℕ, ◌≡◌, length}
use Rattle.sql_grammar.specs.Rules.{reads}
use Rattle.sql_grammar.specs.Grammar.{Name}
use Rattle.sql_grammar.specs.Bodies.{rules}
use Rattle.parse_cursor.specs.Gives.{collected}
use Rattle.parse_expr.specs.Parts.{prefixes}
use Rattle.parse_expr.proofs.operators.prefixes.Given as goal

abbrev pub invariant-loop-found : goal.invariant-loop-found
invariant-loop-found l = (d : ℕ) → reads Name rules d (prefixes l.kinds) l.fn.tokens.counts l.fn.tokens.rest.now ≡ collected l.found (reads Name rules d (prefixes l.kinds) l.tokens.counts l.tokens.rest.now)

abbrev pub decreases-loop-found : goal.decreases-loop-found
decreases-loop-found l = length l.tokens.rest.now
