use Rattle.std.proofs.Common.{◌∙◌, sym}
use Rattle.eng_value.proofs.CauseLaws.{add-once, add-set, insert-has_cause}
use Rattle.eng_value.proofs.causes.Causes.add.Goals as goal

pub returns-then-contains : goal.returns-then-contains
returns-then-contains c = sym (insert-has_cause _ c.args.cause.now (sym c.contains.ensures ∙ c.if-contains.true))

pub invariant_of-self-2 : goal.invariant_of-self-2
invariant_of-self-2 c =
    let inside = c.self.inside in
    add-once _ inside.first c.args.cause.now _ inside.others.items _ c.self.view_is (sym c.contains.ensures ∙ c.if-contains.false) c.in_ok-clone.ensures.cases c.in_ok-push.ensures.items c.self.invariant

pub returns : goal.returns
returns c =
    let inside = c.self.inside in
    add-set _ inside.first c.args.cause.now _ inside.others.items _ c.self.view_is c.in_ok-clone.ensures.cases c.in_ok-push.ensures.items
