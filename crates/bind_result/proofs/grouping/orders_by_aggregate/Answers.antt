use Rattle.sql_bound.specs.HostFacts.{facts_of}
use Rattle.bind_result.proofs.GroupLaws.{orders-wherever}
use Rattle.bind_result.proofs.grouping.orders_by_aggregate.Goals as goal

pub returns-clause-ok : goal.returns-clause-ok
returns-clause-ok c = orders-wherever c.args.order.now c.args.text.now (facts_of c.args.facts.now) c.any_orders.result c.any_orders.ensures.ok
