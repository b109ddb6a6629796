use Rattle.std.proofs.Common.{◌≡◌, length}
use Rattle.sql_grammar.specs.Rules.{reads}
use Rattle.sql_grammar.specs.Grammar.{Name}
use Rattle.sql_grammar.specs.Bodies.{rules}
use Rattle.parse_cursor.specs.Gives.{collected}
use Rattle.parse_cursor.specs.Items.{run, more_of_run}
use Rattle.parse_cursor.proofs.lists.several.Given as goal

abbrev pub invariant-loop-found : goal.invariant-loop-found
invariant-loop-found g l = reads Name rules (g.E.Element.depth l.element) (run (g.E.Element.rule l.element)) l.fn.tokens.counts l.fn.tokens.rest.now ≡ collected l.found (reads Name rules (g.E.Element.depth l.element) (more_of_run (g.E.Element.rule l.element)) l.tokens.counts l.tokens.rest.now)

abbrev pub decreases-loop-found : goal.decreases-loop-found
decreases-loop-found g l = length l.tokens.rest.now
