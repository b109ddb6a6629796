use Rattle.std.proofs.Common.{length, arith}
use Rattle.vm_code.specs.Draft.{with_label}
use Rattle.gen_write.proofs.Checking.{checks_one}
use Rattle.vm_code.proofs.Drafts.{long_label, open_new, open_old}
use Rattle.gen_write.proofs.tests.refuse_by_check.Goals as goal

pub refuse_truth-requires-clause-passed : goal.refuse_truth-requires-clause-passed
refuse_truth-requires-clause-passed c =
    let b = c.args.b.now in
    let grows = rw (c.in_ok-truth.ensures.1, c.in_ok-bad.ensures.1, c.in_ok-passed.ensures.1) at c.in_ok-emit_truth.ensures.leaves.grows in
    grows.open_labels c.in_ok-passed.passed (rw c.in_ok-passed.ensures.0 (open_old (with_label b) (length b.labels) (open_new b)))

pub refuse_truth-requires-clause-bad : goal.refuse_truth-requires-clause-bad
refuse_truth-requires-clause-bad c =
    let b = c.args.b.now in
    let grows = rw (c.in_ok-truth.ensures.1, c.in_ok-bad.ensures.1, c.in_ok-passed.ensures.1) at c.in_ok-emit_truth.ensures.leaves.grows in
    grows.open_labels c.in_ok-bad.bad (rw (c.in_ok-bad.ensures.0, c.in_ok-passed.ensures.1) (open_new (with_label b)))

pub refuse_truth-requires-clause-apart : goal.refuse_truth-requires-clause-apart
refuse_truth-requires-clause-apart c =
    rw (c.in_ok-bad.ensures.0, c.in_ok-passed.ensures.1, c.in_ok-passed.ensures.0) (omega (arith, long_label c.args.b.now))

pub returns-clause-checks : goal.returns-clause-checks
returns-clause-checks c =
    let leaves = rw (c.in_ok-truth.ensures.1, c.in_ok-truth.ensures.0, c.in_ok-bad.ensures.1, c.in_ok-passed.ensures.1) at c.in_ok-emit_truth.ensures.leaves in
    rw (c.give_back.ensures, c.in_ok-refuse_truth.ensures, c.in_ok-truth.ensures.0, c.in_ok-bad.ensures.0, c.in_ok-bad.ensures.1, c.in_ok-passed.ensures.0, c.in_ok-passed.ensures.1) (checks_one c.args.b.now c.emit_truth.new.b c.args.table.now c.args.check.now leaves)
