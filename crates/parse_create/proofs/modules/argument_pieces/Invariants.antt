use Rattle.std.proofs.Common.{◌≡◌, length}
use Rattle.sql_grammar.specs.Rules.{reads}
use Rattle.sql_grammar.specs.Grammar.{Name}
use Rattle.sql_grammar.specs.Bodies.{rules}
use Rattle.parse_create.specs.Arguments.{pieces}
use Rattle.parse_create.proofs.modules.argument_pieces.Given as goal

abbrev pub invariant-loop-tokens : goal.invariant-loop-tokens
invariant-loop-tokens l = reads Name rules l.depth pieces l.fn.tokens.counts l.fn.tokens.rest.now ≡ reads Name rules l.depth pieces l.tokens.counts l.tokens.rest.now

abbrev pub decreases-loop-tokens : goal.decreases-loop-tokens
decreases-loop-tokens l = length l.tokens.rest.now
