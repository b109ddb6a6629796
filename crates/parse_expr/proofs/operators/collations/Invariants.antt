use Rattle.std.proofs.Common.{◌≡◌, ℕ, length}
use Rattle.sql_grammar.specs.Rules.{reads}
use Rattle.sql_grammar.specs.Grammar.{Name, collations}
use Rattle.sql_grammar.specs.Bodies.{rules}
use Rattle.parse_cursor.specs.Gives.{apply_to}
use Rattle.parse_expr.proofs.operators.collations.Given as goal

abbrev pub invariant-loop-alloc : goal.invariant-loop-alloc
invariant-loop-alloc l = (d : ℕ) → apply_to l.fn.left (reads Name rules d collations l.fn.tokens.counts l.fn.tokens.rest.now) ≡ apply_to l.left (reads Name rules d collations l.tokens.counts l.tokens.rest.now)

abbrev pub decreases-loop-alloc : goal.decreases-loop-alloc
decreases-loop-alloc l = length l.tokens.rest.now
