use Rattle.std.proofs.Common.{◌+◌, ◌*◌, length}
use Rattle.bind_command.proofs.indexes.+walking.Given as goal

abbrev pub decreases-parts_within : goal.decreases-parts_within
decreases-parts_within l = length l.parts.now * 2

abbrev pub decreases-part_within : goal.decreases-part_within
decreases-part_within l = length l.rest.now * 2 + 1
