use Rattle.std.proofs.Common.{◌≡◌, take}
use Rattle.std.specs.FinSet as set
use Rattle.eng_value.proofs.CauseLaws.{set_of}
use Rattle.eng_value.proofs.causes.Causes.union.Given as goal

abbrev pub invariant-loop-cause : goal.invariant-loop-cause
invariant-loop-cause l = l.all ≡ set.union l.initial.all (set_of (take l.cause-index l.cause-items))
