use Rattle.std.proofs.Common.{◌≡◌, length}
use Rattle.sql_grammar.specs.Rules.{reads}
use Rattle.sql_grammar.specs.Grammar.{Name}
use Rattle.sql_grammar.specs.Bodies.{rules}
use Rattle.sql_grammar.specs.Definitions.{all_columns}
use Rattle.parse_create.specs.Elements.{with_elements, elements_behind}
use Rattle.parse_create.proofs.tables.all_columns.Given as goal

abbrev pub invariant-loop-alloc : goal.invariant-loop-alloc
invariant-loop-alloc l = reads Name rules l.depth all_columns l.fn.tokens.counts l.fn.tokens.rest.now ≡ with_elements l.columns l.constraints (reads Name rules l.depth (elements_behind l.constraints) l.tokens.counts l.tokens.rest.now)

abbrev pub decreases-loop-alloc : goal.decreases-loop-alloc
decreases-loop-alloc l = length l.tokens.rest.now
