use Rattle.std.proofs.Common.{◌≡◌, drop}
use Rattle.eng_number.specs.Forms.{without_space}
use Rattle.eng_number.proofs.scanning.space_len.Given as goal

abbrev pub invariant-loop-i : goal.invariant-loop-i
invariant-loop-i l = without_space (drop l.i l.bytes) ≡ without_space l.bytes
