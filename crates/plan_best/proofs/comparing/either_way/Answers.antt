use Rattle.bound_tree.specs.Seen.{seen}
use Rattle.plan_best.proofs.Conjuncts.{stands_round}
use Rattle.plan_best.proofs.comparing.either_way.Goals as goal

pub returns-in-Some : goal.returns-in-Some
returns-in-Some c = c.in-Some.ensures.0

pub returns-in-None : goal.returns-in-None
returns-in-None c =
    stands_round c.args.params.now c.args.item c.args.op c.args.sides (seen c.args.a.now) (seen c.args.b.now) c.op_round.result c.sides_round.result c.op_round.ensures c.sides_round.ensures _ c.in-None.ensures c.one_way-in-None.ensures
