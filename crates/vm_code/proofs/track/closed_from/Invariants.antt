use Rattle.std.proofs.Common.{◌≡◌, take}
use Rattle.vm_code.specs.Track.{closed_from}
use Rattle.vm_code.proofs.track.closed_from.Given as goal

abbrev pub invariant-loop-each : goal.invariant-loop-each
invariant-loop-each l = l.cursors ≡ closed_from l.cursor (take l.each-index l.open)
