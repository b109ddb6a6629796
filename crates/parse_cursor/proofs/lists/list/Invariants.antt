use Rattle.std.proofs.Common.{◌≡◌, length}
use Rattle.sql_grammar.specs.Rules.{reads}
use Rattle.sql_grammar.specs.Grammar.{Name}
use Rattle.sql_grammar.specs.Bodies.{rules}
use Rattle.parse_cursor.specs.Gives.{collected}
use Rattle.parse_cursor.specs.Items.{items, more_items}
use Rattle.parse_cursor.proofs.lists.list.Given as goal

abbrev pub invariant-loop-tokens : goal.invariant-loop-tokens
invariant-loop-tokens g l = reads Name rules (g.E.Element.depth l.element) (items (g.E.Element.rule l.element)) l.fn.tokens.counts l.fn.tokens.rest.now ≡ collected l.found (reads Name rules (g.E.Element.depth l.element) (more_items (g.E.Element.rule l.element)) l.tokens.counts l.tokens.rest.now)

abbrev pub decreases-loop-tokens : goal.decreases-loop-tokens
decreases-loop-tokens g l = length l.tokens.rest.now
