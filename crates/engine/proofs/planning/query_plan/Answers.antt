use Rattle.std.proofs.Common.{◌≡◌, arith}
use Rattle.std.proofs.lemmas.Grind.{common_steps}
use Rattle.std.proofs.lemmas.Result.{IfOk-weaker}
use Rattle.gen_query.specs.Queries.{conjuncts_of}
use Rattle.plan_tree.specs.Plans.{PlanFits}
use Rattle.engine.proofs.Programs.{fits_query}
use Rattle.engine.proofs.planning.query_plan.Goals as goal

pub returns : goal.returns
returns c =
    let q = c.args.query.now in
    let from = c.as_slice-from.result.now in
    let conjuncts = c.as_slice-2.result.now in
    let items : from ≡ q.from = grind (arith, common_steps) in
    let split : conjuncts ≡ conjuncts_of q = grind (arith, common_steps) in
    IfOk-weaker c.planned.result (PlanFits c.args.params.now from conjuncts) (PlanFits c.args.params.now q.from (conjuncts_of q)) (λ plan. fits_query c.args.params.now q from conjuncts plan items split) c.planned.ensures.fits
