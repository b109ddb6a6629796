use Rattle.std.proofs.Common.{refl}
use Rattle.gen_write.specs.Writes.{column_with}
use Rattle.std.specs.Prelude.{None}
use Rattle.gen_write.proofs.Columns.{held_one, loads_for, stores_column, stores_held, value_few}
use Rattle.gen_write.proofs.rows.emit_value.Goals as goal

pub returns-then-is_held-clause-stores : goal.returns-then-is_held-clause-stores
returns-then-is_held-clause-stores c =
    let loads = rw (c.in_ok-to.ensures.1, c.kept_at-value.ensures) at c.in_ok-load.ensures.loads in
    let held = rw c.kept_at-value.ensures at (c.if-is_held.ensures refl) in
    stores_held c.args.affinity c.args.place c.args.kept.now c.in_ok-to.to c.args.causes c.in_ok-to.ensures.0 c.requires.taken c.requires.counted held loads

pub returns-then-is_held-clause-held : goal.returns-then-is_held-clause-held
returns-then-is_held-clause-held c none =
    held_one c.args.affinity c.args.place c.args.kept.now (rw c.kept_at-value.ensures at (c.if-is_held.ensures refl))

pub returns-clause-stores : goal.returns-clause-stores
returns-clause-stores c =
    let loads = rw (c.in_ok-to.ensures.1, c.kept_at-value.ensures) at c.in_ok-load.ensures.loads in
    rw c.in_ok-store.ensures (stores_column (column_with c.args.affinity c.args.place None) c.args.kept.now c.in_ok-to.to c.args.causes 1 c.in_ok-to.ensures.0 c.requires.taken c.requires.counted (value_few c.args.affinity c.args.place) loads.grows loads.next loads.steady (loads_for c.args.b.now c.in_ok-to.to c.args.causes c.args.kept.now c.args.place loads))
