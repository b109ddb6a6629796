use Rattle.std.proofs.Common.{◌∷◌, ◌∙◌, ap, sym, subst}
use Rattle.eng_value.specs.declared.cause.Cause.{Cause}
use Rattle.eng_value.specs.Causes.{CauseSet, StandOnce, has_cause}
use Rattle.eng_value.proofs.CauseLaws.{StandOnce-one, set_of, has_cause-insert}
use Rattle.eng_value.proofs.causes.Causes.into_first.Goals as goal

pub invariant_of-causes : goal.invariant_of-causes
invariant_of-causes c = subst (λ cs. StandOnce (c.replace.new.dest ∷ cs)) (sym c.clear.ensures.items) (StandOnce-one c.replace.new.dest)

pub returns : goal.returns
returns c =
    let inside = c.causes.inside in
    ap (λ (r : Cause). has_cause c.args.self r) c.replace.ensures.value
    ∙ ap (λ (s : CauseSet). has_cause s inside.first) (sym c.causes.view_is)
    ∙ has_cause-insert (set_of inside.others.items) inside.first
