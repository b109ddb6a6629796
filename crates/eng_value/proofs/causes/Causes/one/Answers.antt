use Rattle.std.proofs.Common.{◌∷◌, sym, subst}
use Rattle.eng_value.specs.Causes.{StandOnce}
use Rattle.eng_value.proofs.CauseLaws.{StandOnce-one}
use Rattle.eng_value.proofs.causes.Causes.one.Goals as goal

pub invariant_of-result : goal.invariant_of-result
invariant_of-result c = subst (λ cs. StandOnce (c.args.cause ∷ cs)) (sym c.new.ensures.items) (StandOnce-one c.args.cause)
