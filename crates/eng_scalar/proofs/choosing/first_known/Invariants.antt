use Rattle.std.proofs.Common.{◌≡◌, drop}
use Rattle.eng_value.specs.Functions.{first_known}
use Rattle.eng_scalar.proofs.choosing.first_known.Given as goal

abbrev pub invariant-loop-arg : goal.invariant-loop-arg
invariant-loop-arg l = first_known (drop l.arg-index l.args) ≡ first_known l.args
