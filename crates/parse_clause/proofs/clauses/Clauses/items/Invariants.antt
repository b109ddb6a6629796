use Rattle.std.proofs.Common.{◌≡◌, length}
use Rattle.sql_grammar.specs.Rules.{reads}
use Rattle.sql_grammar.specs.Grammar.{Name}
use Rattle.sql_grammar.specs.Bodies.{rules}
use Rattle.sql_grammar.specs.Queries.{items}
use Rattle.parse_cursor.specs.Gives.{collected}
use Rattle.parse_clause.specs.Parts.{joined_items}
use Rattle.parse_clause.proofs.clauses.Clauses.items.Given as goal

abbrev pub invariant-loop-found : goal.invariant-loop-found
invariant-loop-found g l = reads Name rules l.self.levels.operands.depth items l.fn.tokens.counts l.fn.tokens.rest.now ≡ collected l.found (reads Name rules l.self.levels.operands.depth joined_items l.tokens.counts l.tokens.rest.now)

abbrev pub decreases-loop-found : goal.decreases-loop-found
decreases-loop-found g l = length l.tokens.rest.now
