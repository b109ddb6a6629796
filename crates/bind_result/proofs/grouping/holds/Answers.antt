use Rattle.sql_bound.specs.HostFacts.{facts_of}
use Rattle.bind_result.proofs.GroupLaws.{at-told}
use Rattle.bind_result.proofs.grouping.holds.Goals as goal

pub returns-clause-ok : goal.returns-clause-ok
returns-clause-ok c = at-told c.args.e.now c.args.text.now (facts_of c.args.facts.now) c.holds_aggregate.result c.holds_aggregate.ensures.ok
