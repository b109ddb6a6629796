use Rattle.std.proofs.Common.{◌≡◌, None, take}
use Rattle.gen_query.specs.Queries.{by_world, rows_in_turn_steps, rows_read, values_effect}
use Rattle.vm_code.specs.Frames.{Does, needing}
use Rattle.gen_query.proofs.values.emit_values.Given as goal

abbrev pub invariant-loop-row : goal.invariant-loop-row
invariant-loop-row l = record {
  does : Does (needing (rows_read (take l.row-index l.rows))) l.initial.b l.b 0 0 None (values_effect (take l.row-index l.rows)) (by_world (λ w. rows_in_turn_steps (take l.row-index l.rows)));
  cursors : l.b.cursors ≡ l.initial.b.cursors;
  units : l.b.units ≡ l.initial.b.units;
}
