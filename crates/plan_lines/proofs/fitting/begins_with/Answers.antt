use Rattle.std.proofs.Common.{sym, ◌∙◌}
use Rattle.plan_lines.proofs.Terms.{begins_with-none}
use Rattle.plan_lines.proofs.fitting.begins_with.Goals as goal

pub returns-in-empty : goal.returns-in-empty
returns-in-empty c = sym (c.loop-term.invariant ∙ begins_with-none c.loop-term.rest.now c.args.sought.now c.loop-term.term-index c.in-empty.len_below c.loop-term-test.true)
