use Rattle.std.proofs.Common.{◌≡◌, ◌≤◌, length, take, reverse}
use Rattle.eng_value.specs.Collations.{without_spaces}
use Rattle.eng_key.proofs.values.without_spaces_behind.Given as goal

abbrev pub invariant-loop-end : goal.invariant-loop-end
invariant-loop-end l = (l.end ≤ length l.text) × (without_spaces (reverse (take l.end l.text)) ≡ without_spaces (reverse l.text))

abbrev pub decreases-loop-end : goal.decreases-loop-end
decreases-loop-end l = l.end
