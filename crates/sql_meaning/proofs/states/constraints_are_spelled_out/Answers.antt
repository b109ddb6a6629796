use Rattle.sql_meaning.specs.Permits.{asked_by}
use Rattle.sql_meaning.specs.Runnables.{Puts}
use Rattle.sql_meaning.proofs.ConstraintLaws.{text-spelled}
use Rattle.sql_meaning.proofs.states.constraints_are_spelled_out.Goals as goal

pub returns : goal.returns
returns c ctx text p valid is = text-spelled (asked_by ctx.hosts.authorizer) ctx.state.world text (Puts p) valid.world is
