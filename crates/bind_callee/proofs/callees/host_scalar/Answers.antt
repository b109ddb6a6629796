use Rattle.bind_callee.proofs.callees.host_scalar.Goals as goal

pub returns-in-None-clause-ok : goal.returns-in-None-clause-ok
returns-in-None-clause-ok c = rw (← c.in-None.ensures, ← c.host_aggregate_named.ensures) c.host_aggregate.ensures.ok
