use Rattle.std.proofs.Common.{◌≡◌, length}
use Rattle.sql_grammar.specs.Rules.{reads}
use Rattle.sql_grammar.specs.Grammar.{Name}
use Rattle.sql_grammar.specs.Bodies.{rules}
use Rattle.parse_query.specs.Parts.{found_parts, compound_parts, with_parts}
use Rattle.parse_query.proofs.queries.Queries.parts.Given as goal

abbrev pub invariant-loop-tokens : goal.invariant-loop-tokens
invariant-loop-tokens g l = reads Name rules l.self.clauses.levels.operands.depth found_parts l.fn.tokens.counts l.fn.tokens.rest.now ≡ with_parts l.first l.others l.ends_in_select (reads Name rules l.self.clauses.levels.operands.depth compound_parts l.tokens.counts l.tokens.rest.now)

abbrev pub decreases-loop-tokens : goal.decreases-loop-tokens
decreases-loop-tokens g l = length l.tokens.rest.now
