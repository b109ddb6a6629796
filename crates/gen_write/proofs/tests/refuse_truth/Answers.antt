use Rattle.std.proofs.Common.{◌≢◌, None, arith}
use Rattle.vm_code.proofs.Drafts.{get-set_other}
use Rattle.gen_write.proofs.tests.refuse_truth.Goals as goal

pub bind-requires-2 : goal.bind-requires-2
bind-requires-2 c =
    let apart : c.args.passed ≢ c.args.bad = λ e. absurd (omega (arith, e, c.requires.apart)) in
    rw (c.in_ok-op-4.ensures, c.in_ok-bind.ensures, c.in_ok-op-3.ensures, c.in_ok-op-2.ensures, c.in_ok-op.ensures) (get-set_other c.args.b.now.labels c.args.bad c.args.passed _ None apart c.requires.passed)
