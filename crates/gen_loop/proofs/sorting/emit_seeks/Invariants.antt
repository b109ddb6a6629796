use Rattle.std.proofs.Common.{◌≡◌, ◌-◌}
use Rattle.gen_loop.specs.Sorting.{sought_all}
use Rattle.gen_loop.proofs.sorting.emit_seeks.Given as goal

abbrev pub invariant-loop-rowid : goal.invariant-loop-rowid
invariant-loop-rowid l = l.b ≡ sought_all l.initial.b l.first (l.rowid - l.first)
