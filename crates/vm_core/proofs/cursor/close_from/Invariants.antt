use Rattle.std.proofs.Common.{◌≡◌, length}
use Rattle.vm_code.specs.Machine.{closed_from}
use Rattle.vm_core.proofs.cursor.close_from.Given as goal

abbrev pub invariant-loop-number : goal.invariant-loop-number
invariant-loop-number l = record {
  closed : closed_from l.number l.cursors.items ≡ closed_from l.first l.initial.cursors.items;
  long : length l.cursors.items ≡ length l.initial.cursors.items;
}
