use Rattle.vm_check.proofs.Keeping.{never_missing}
use Rattle.vm_check.proofs.laws.accepted_never_misses.Goals as goal

pub returns : goal.returns
returns c = λ p accepted m w last_rowid n s same e. never_missing p accepted m w last_rowid n s same e
