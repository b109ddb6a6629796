use Rattle.std.proofs.Common.{None, Some, arith}
use Rattle.gen_write.specs.Writes.{column_with}
use Rattle.gen_write.proofs.Columns.{default_for, stores_column}
use Rattle.gen_write.proofs.rows.emit_default.Goals as goal

pub returns-in-None-clause-held : goal.returns-in-None-clause-held
returns-in-None-clause-held c = rw c.in-None.is c.emit_value.ensures.held

pub returns-in_ok-store-in-Some-clause-stores : goal.returns-in_ok-store-in-Some-clause-stores
returns-in_ok-store-in-Some-clause-stores c =
    let x = c.in-Some.default in
    let leaves = rw c.in_ok-to-in-Some.ensures.1 at c.in_ok-emit-in-Some.ensures.leaves in
    rw (c.in_ok-store-in-Some.ensures, c.in-Some.is) (stores_column (column_with c.args.affinity None (Some x)) c.args.kept.now c.in_ok-to-in-Some.to c.args.causes _ c.in_ok-to-in-Some.ensures.0 c.requires.taken c.requires.counted (omega arith) leaves.grows leaves.next leaves.steady (default_for c.args.b.now c.in_ok-to-in-Some.to c.args.causes c.args.kept.now x leaves))
