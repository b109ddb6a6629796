use Rattle.std.proofs.Common.{◌≡◌, ◌<◌, length, arith}
use Rattle.gen_write.proofs.Checking.{checks_row_none, checks_row_some}
use Rattle.gen_write.specs.Writes.{needs_of_each}
use Rattle.vm_code.specs.Frames.{needing}
use Rattle.gen_write.proofs.tests.refuse_by_checks.Goals as goal

pub returns-then-is_empty-clause-checks : goal.returns-then-is_empty-clause-checks
returns-then-is_empty-clause-checks c =
    let none : length c.args.checks.now ≡ 0 = grind (arith) in
    checks_row_none (needing (needs_of_each c.args.checks.now)) c.args.b.now c.args.table.now c.args.checks.now c.args.rowid c.args.first c.args.count none

pub returns-clause-checks : goal.returns-clause-checks
returns-clause-checks c =
    let some : 0 < length c.args.checks.now = grind (arith) in
    let checks = rw c.in_ok-op.ensures at c.in_ok-refuse_by_all.ensures.checks in
    checks_row_some (needing (needs_of_each c.args.checks.now)) c.args.b.now c.refuse_by_all.new.b c.op-2.new.self c.args.table.now c.args.checks.now c.args.rowid c.args.first c.args.count some checks c.in_ok-op-2.ensures
