use Rattle.plan_join.proofs.Loops.{left_made}
use Rattle.plan_join.proofs.looping.left_loop.Goals as goal

pub returns : goal.returns
returns g c = left_made c.args.params.now c.args.place c.args.item.now c.args.ons.now c.args.assigned c.in_ok-those.those c.as_slice-conjuncts.result.now c.as_slice-indexes.result.now c.as_slice-consumed.result.now c.in_ok-found.found c.in_ok-pairs.pairs c.by_access.result c.in_ok-those.ensures c.as_slice-conjuncts.ensures c.as_slice-indexes.ensures c.as_slice-consumed.ensures c.in_ok-found.ensures.fits c.in_ok-pairs.ensures c.by_access.ensures.place c.by_access.ensures.table c.by_access.ensures.path c.by_access.ensures.pairs c.by_access.ensures.checks
