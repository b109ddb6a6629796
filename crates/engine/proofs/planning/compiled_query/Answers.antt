use Rattle.engine.proofs.Programs.{accepted_by, performs_by}
use Rattle.engine.proofs.planning.compiled_query.Goals as goal

pub returns-clause-performs : goal.returns-clause-performs
returns-clause-performs c = performs_by c.args.params.now c.args.query.now c.in_ok-plan.plan c.compile.result c.in_ok-plan.ensures c.compile.ensures.performs

pub returns-clause-accepted : goal.returns-clause-accepted
returns-clause-accepted c = accepted_by c.args.params.now c.args.query.now c.in_ok-plan.plan c.compile.result c.in_ok-plan.ensures c.compile.ensures.accepted
