use Rattle.std.proofs.Common.{◌+◌, ap, ◌∙◌, arith}
use Rattle.std.specs.Prelude.{slice_set}
use Rattle.vm_code.specs.Machine.{read}
use Rattle.vm_store.proofs.Moves.{left_over, one_moved}
use Rattle.vm_store.proofs.registers.Registers.receive.Goals as goal

pub loop-i-preserved : goal.loop-i-preserved
loop-i-preserved c =
    let own = c.loop-i.self-inside.outs.items in
    let from = c.loop-i.from-inside.outs.items in
    let to = c.args.to in
    let first = c.args.first in
    let count = c.args.count in
    let i = c.loop-i.i in
    ap (λ l. left_over l c.take_from-out.new.outs.items to first count (i + 1)) (c.write_to.ensures ∙ ap (slice_set own (to + i)) c.take_from-out.ensures.out)
    ∙ ap (λ l. left_over (slice_set own (to + i) (read from (first + i))) l to first count (i + 1)) c.take_from-out.ensures.left
    ∙ one_moved own from to first count i (omega arith)
    ∙ c.loop-i.invariant
