use Rattle.std.proofs.Common.{◌≡◌, take}
use Rattle.gen_write.proofs.tests.copied.Given as goal

abbrev pub invariant-loop-terms : goal.invariant-loop-terms
invariant-loop-terms l = l.copy ≡ take l.terms-index l.keys
