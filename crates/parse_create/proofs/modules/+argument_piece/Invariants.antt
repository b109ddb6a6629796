use Rattle.std.proofs.Common.{◌≡◌, ◌-◌, ◌<◌, length}
use Rattle.sql_grammar.specs.Rules.{reads}
use Rattle.sql_grammar.specs.Grammar.{Name}
use Rattle.sql_grammar.specs.Bodies.{rules}
use Rattle.sql_grammar.specs.Definitions.{argument_piece, inner_pieces}
use Rattle.parse_create.specs.Arguments.{closed}
use Rattle.parse_create.proofs.modules.+argument_piece.Given as goal

abbrev pub decreases-argument_piece : goal.decreases-argument_piece
decreases-argument_piece l = l.depth

abbrev pub invariant-loop-tokens : goal.invariant-loop-tokens
invariant-loop-tokens l = (0 < l.depth) × (reads Name rules l.depth argument_piece l.fn.tokens.counts l.fn.tokens.rest.now ≡ closed (reads Name rules (l.depth - 1) inner_pieces l.tokens.counts l.tokens.rest.now))

abbrev pub decreases-loop-tokens : goal.decreases-loop-tokens
decreases-loop-tokens l = length l.tokens.rest.now
