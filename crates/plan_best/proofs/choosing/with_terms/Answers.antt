use Rattle.std.proofs.Common.{sym, subst}
use Rattle.plan_best.proofs.Adding.{none_goes_on, none_serves}
use Rattle.plan_best.specs.Drafts.{MayGoOn, Serves}
use Rattle.plan_best.specs.declared.drafting.Draft.{Draft}
use Rattle.plan_best.proofs.choosing.with_terms.Goals as goal

pub extend-requires-clause-goes_on : goal.extend-requires-clause-goes_on
extend-requires-clause-goes_on g c =
    subst (λ (d : Draft). MayGoOn c.args.params.now c.args.item c.args.conjuncts.now d) (sym c.in_ok-draft.ensures) (none_goes_on c.args.params.now c.args.item c.args.conjuncts.now c.args.terms.now)

pub returns : goal.returns
returns g c =
    c.in_ok-better.ensures c.args.params.now c.args.item c.args.indexes.now c.args.conjuncts.now c.requires.best (c.in_ok-extend.ensures c.args.indexes.now (subst (λ (d : Draft). Serves c.args.params.now c.args.item c.args.indexes.now c.args.conjuncts.now d) (sym c.in_ok-draft.ensures) (none_serves c.args.params.now c.args.item c.args.indexes.now c.args.conjuncts.now c.args.terms.now c.requires.none)))
