use Rattle.std.proofs.Common.{◌≡◌, drop}
use Rattle.bound_ignored.specs.Marked.{is_ignored}
use Rattle.bound_ignored.proofs.reads.is_ignored.Given as goal

abbrev pub invariant-loop-action : goal.invariant-loop-action
invariant-loop-action l = is_ignored l.ignored l.within l.table l.column ≡ is_ignored (drop l.action-index l.ignored) l.within l.table l.column
