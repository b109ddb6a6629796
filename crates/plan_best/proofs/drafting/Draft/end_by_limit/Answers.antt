use Rattle.plan_best.proofs.Following.{serves_on, still_goes_on}
use Rattle.plan_best.specs.declared.comparing.Wanted.TheVariants as wanted
use Rattle.plan_best.proofs.drafting.Draft.end_by_limit.Goals as goal

pub add-requires-2-clause-goes_on : goal.add-requires-2-clause-goes_on
add-requires-2-clause-goes_on c =
    still_goes_on c.args.params.now c.args.item c.args.conjuncts.now c.in_ok-add.field-0 wanted.Lower c.args.self.now c.add.new.self c.in_ok-add.ensures.added c.if-branch.false c.requires.goes_on

pub returns : goal.returns
returns c =
    serves_on c.args.params.now c.args.item c.args.conjuncts.now c.args.self.now c.add.new.self c.add-2.new.self c.in_ok-add.ensures.serves c.in_ok-add-2.ensures.serves
