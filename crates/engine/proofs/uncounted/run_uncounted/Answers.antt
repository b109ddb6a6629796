use Rattle.std.proofs.lemmas.Result.{IfErr-weaker}
use Rattle.engine.proofs.PlainCauses.{plain_cause}
use Rattle.engine.proofs.uncounted.run_uncounted.Goals as goal

pub returns-clause-cause : goal.returns-clause-cause
returns-clause-cause g c = IfErr-weaker c.run.result _ _ (λ r is told still. plain_cause _ _ _ _ _ _ _ _ _ r.cause still (is told)) c.run.ensures.cause
