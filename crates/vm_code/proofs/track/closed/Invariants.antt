use Rattle.std.proofs.Common.{◌≡◌, take}
use Rattle.vm_code.specs.Track.{closed}
use Rattle.vm_code.proofs.track.closed.Given as goal

abbrev pub invariant-loop-each : goal.invariant-loop-each
invariant-loop-each l = l.cursors ≡ closed l.cursor (take l.each-index l.open)
