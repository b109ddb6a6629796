use Rattle.std.proofs.Common.{◌≡◌, drop, length, take}
use Rattle.vm_tables.specs.Changes.{before}
use Rattle.vm_tables.proofs.change.take_back.Given as goal

abbrev pub invariant-loop-log : goal.invariant-loop-log
invariant-loop-log l = record {
  tables : before (drop l.from l.log.items) l.tables.items ≡ before (drop l.from l.initial.log.items) l.initial.tables.items;
  log : take l.from l.log.items ≡ take l.from l.initial.log.items;
}

abbrev pub decreases-loop-log : goal.decreases-loop-log
decreases-loop-log l = length l.log.items
