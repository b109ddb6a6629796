use Rattle.plan_best.proofs.Adding.{add_goes_on_so, add_serves_so}
use Rattle.plan_best.proofs.drafting.Draft.add.Goals as goal

pub returns-in_ok-add_key-in-Some-clause-serves : goal.returns-in_ok-add_key-in-Some-clause-serves
returns-in_ok-add_key-in-Some-clause-serves c =
    add_serves_so c.args.params.now c.args.item c.args.conjuncts.now c.args.self.now c.add_key.new.self c.args.term.now c.args.wanted c.args.given c.as_slice.result.now c.in-Some.place c.in-Some.comparison c.as_slice.ensures c.in-Some.ensures c.requires.term c.requires.next c.requires.goes_on c.in_ok-add_key-in-Some.ensures

pub returns-in_ok-add_key-in-Some-clause-goes_on : goal.returns-in_ok-add_key-in-Some-clause-goes_on
returns-in_ok-add_key-in-Some-clause-goes_on c =
    add_goes_on_so c.args.params.now c.args.item c.args.conjuncts.now c.args.self.now c.add_key.new.self c.args.term.now c.args.wanted c.args.given c.as_slice.result.now c.in-Some.place c.in-Some.comparison c.as_slice.ensures c.in-Some.ensures c.requires.term c.requires.next c.requires.goes_on c.in_ok-add_key-in-Some.ensures
