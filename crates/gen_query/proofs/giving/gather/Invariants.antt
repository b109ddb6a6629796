use Rattle.std.proofs.Common.{◌≡◌, ◌-◌}
use Rattle.gen_query.specs.Stretches.{Gathers}
use Rattle.gen_query.proofs.giving.gather.Given as goal

abbrev pub invariant-loop-from : goal.invariant-loop-from
invariant-loop-from l = record {
  gathers : Gathers l.initial.b l.b l.first (l.from - l.first) l.causes;
  cursors : l.b.cursors ≡ l.initial.b.cursors;
  units : l.b.units ≡ l.initial.b.units;
}
