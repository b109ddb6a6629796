use Rattle.sql_bound.specs.HostFacts.{facts_of}
use Rattle.bind_result.proofs.GroupLaws.{is_grouped-wherever}
use Rattle.bind_result.proofs.grouping.is_grouped.Goals as goal

pub returns-clause-ok : goal.returns-clause-ok
returns-clause-ok c = is_grouped-wherever c.args.core.now c.args.ordered c.args.text.now (facts_of c.args.facts.now) c.is_grouped_so.result c.is_grouped_so.ensures.ok
