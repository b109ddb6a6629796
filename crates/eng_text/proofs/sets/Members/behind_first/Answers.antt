use Rattle.std.proofs.Common.{sym}
use Rattle.eng_text.proofs.SetLaws.{behind-member, behind-range}
use Rattle.eng_text.proofs.sets.Members.behind_first.Goals as goal

pub returns-in-Some-clause-same : goal.returns-in-Some-clause-same
returns-in-Some-clause-same c = λ takes_members.
    let range = c.in-Some.ensures in
    rw c.with.ensures (sym (behind-range c.args.c takes_members _ _ _ _ _ _ _ _ c.requires.first c.requires.member range.0 range.1 range.2))

pub returns-in-None-clause-same : goal.returns-in-None-clause-same
returns-in-None-clause-same c = λ takes_members.
    rw c.with-in-None.ensures (sym (behind-member c.args.c takes_members _ _ _ _ _ c.requires.first c.requires.member c.in-None.ensures))
