use Rattle.std.proofs.Common.{sym, ◌∙◌, arith}
use Rattle.eng_text.proofs.SetLaws.{behind-closing, behind-end}
use Rattle.eng_text.proofs.sets.behind_members.Goals as goal

pub returns-then-members-takes_members-clause-value : goal.returns-then-members-takes_members-clause-value
returns-then-members-takes_members-clause-value c =
    sym (behind-closing _ _ _ _ _ _ _ _ c.in-Some.ensures.0 c.if-first-eq93.true c.if-members-takes_members.true) ∙ c.loop-first.invariant.0

pub returns-then-members-takes_members-clause-shorter : goal.returns-then-members-takes_members-clause-shorter
returns-then-members-takes_members-clause-shorter c = omega (arith, c.in-Some.ensures.1, c.loop-first.invariant.1)

pub returns-else-members-takes_members-clause-value : goal.returns-else-members-takes_members-clause-value
returns-else-members-takes_members-clause-value c =
    sym (behind-closing _ _ _ _ _ _ _ _ c.in-Some.ensures.0 c.if-first-eq93.true c.if-members-takes_members.false) ∙ c.loop-first.invariant.0

pub returns-clause-value : goal.returns-clause-value
returns-clause-value c = sym (behind-end _ _ _ _ _ c.in_default.ensures) ∙ c.loop-first.invariant.0

pub loop-first-smaller : goal.loop-first-smaller
loop-first-smaller c = c.behind_first-members.ensures.shorter

pub loop-first-preserved : goal.loop-first-preserved
loop-first-preserved c =
    (c.behind_first-members.ensures.same c.args.takes_members ∙ c.loop-first.invariant.0, omega (arith, c.behind_first-members.ensures.shorter, c.loop-first.invariant.1))
