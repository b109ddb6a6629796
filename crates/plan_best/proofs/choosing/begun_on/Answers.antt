use Rattle.std.proofs.Common.{◌≡◌, length, sym, subst}
use Rattle.plan_best.proofs.Adding.{begun_goes_on, begun_serves}
use Rattle.plan_best.specs.Drafts.{MayGoOn, Serves, with_key, without_keys}
use Rattle.plan_best.specs.declared.drafting.Draft.{Draft}
use Rattle.plan_best.proofs.choosing.begun_on.Goals as goal

pub extend-requires-clause-goes_on : goal.extend-requires-clause-goes_on
extend-requires-clause-goes_on c =
    let is : c.add_key.new.self ≡ with_key (without_keys c.args.terms.now (length c.args.conjuncts.now)) c.args.place c.args.comparison.now = cc (c.in_ok-add_key.ensures, c.in_ok-draft.ensures) in
    subst (λ (d : Draft). MayGoOn c.args.params.now 0 c.args.conjuncts.now d) (sym is) (begun_goes_on c.args.params.now c.args.conjuncts.now c.args.place c.args.comparison.now c.requires.search c.args.terms.now c.requires.begun)

pub returns : goal.returns
returns c = λ indexes able.
    let is : c.add_key.new.self ≡ with_key (without_keys c.args.terms.now (length c.args.conjuncts.now)) c.args.place c.args.comparison.now = cc (c.in_ok-add_key.ensures, c.in_ok-draft.ensures) in
    c.in_ok-extend.ensures indexes (subst (λ (d : Draft). Serves c.args.params.now 0 indexes c.args.conjuncts.now d) (sym is) (begun_serves c.args.params.now c.args.conjuncts.now c.args.place c.args.comparison.now c.requires.search c.args.terms.now c.requires.begun indexes able))
