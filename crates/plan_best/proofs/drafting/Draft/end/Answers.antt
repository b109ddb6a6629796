use Rattle.std.proofs.Common.{refl}
use Rattle.std.proofs.lemmas.Result.{on_ok_weaker}
use Rattle.plan_best.proofs.Following.{serves_on, still_goes_on}
use Rattle.plan_best.specs.Drafts.{KeepsServing}
use Rattle.plan_best.specs.declared.comparing.Wanted.TheVariants as wanted
use Rattle.plan_best.proofs.drafting.Draft.end.Goals as goal

pub add-requires-2-clause-goes_on : goal.add-requires-2-clause-goes_on
add-requires-2-clause-goes_on c =
    still_goes_on c.args.params.now c.args.item c.args.conjuncts.now c.in_ok-add.field-0 wanted.Equal c.args.self.now c.add.new.self c.in_ok-add.ensures.added c.if-branch.false c.requires.goes_on

pub add-requires-3-clause-goes_on : goal.add-requires-3-clause-goes_on
add-requires-3-clause-goes_on c = c.in_ok-lower.ensures.goes_on refl

pub returns-then-lower : goal.returns-then-lower
returns-then-lower c =
    let params = c.args.params.now in
    let item = c.args.item in
    let cs = c.args.conjuncts.now in
    serves_on params item cs c.args.self.now c.add.new.self c.add-3.new.self c.in_ok-add.ensures.serves (serves_on params item cs c.add.new.self c.add-2.new.self c.add-3.new.self c.in_ok-lower.ensures.serves c.in_ok-upper.ensures.serves)

pub end_by_limit-requires-clause-goes_on : goal.end_by_limit-requires-clause-goes_on
end_by_limit-requires-clause-goes_on c = c.in_ok-upper.ensures.goes_on refl

pub returns : goal.returns
returns c =
    let params = c.args.params.now in
    let item = c.args.item in
    let cs = c.args.conjuncts.now in
    let self = c.args.self.now in
    let first : KeepsServing params item cs self c.add-3.new.self = serves_on params item cs self c.add.new.self c.add-3.new.self c.in_ok-add.ensures.serves (serves_on params item cs c.add.new.self c.add-2.new.self c.add-3.new.self c.in_ok-lower.ensures.serves c.in_ok-upper.ensures.serves) in
    on_ok_weaker {P = KeepsServing params item cs c.add-3.new.self c.end_by_limit.new.self} c.end_by_limit.result (λ last. serves_on params item cs self c.add-3.new.self c.end_by_limit.new.self first last) c.end_by_limit.ensures
