use Rattle.std.proofs.Common.{subst}
use Rattle.std.specs.declared.option.Option.{Option}
use Rattle.plan_best.specs.Drafts.{MayBest}
use Rattle.plan_best.specs.declared.drafting.Draft.{Draft}
use Rattle.plan_best.proofs.choosing.best_other.Goals as goal

pub returns-in-Some : goal.returns-in-Some
returns-in-Some g c =
    c.of_draft.ensures c.args.params.now c.args.item c.args.indexes.now c.args.conjuncts.now (subst (λ (o : Option Draft). MayBest c.args.params.now c.args.item c.args.indexes.now c.args.conjuncts.now o) c.in-Some.is c.in_ok-found.ensures)

pub returns-in-None : goal.returns-in-None
returns-in-None g c = c.scan.ensures c.args.params.now c.args.item c.args.indexes.now c.args.conjuncts.now c.requires
