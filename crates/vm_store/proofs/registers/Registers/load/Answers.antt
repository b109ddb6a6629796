use Rattle.std.proofs.Common.{◌+◌, ◌-◌, ap, ◌∙◌, arith}
use Rattle.std.specs.Prelude.{slice_set}
use Rattle.vm_code.specs.Machine.{columns_from, put_all, row_of_outs}
use Rattle.vm_store.proofs.Moves.{one_loaded}
use Rattle.vm_store.proofs.registers.Registers.load.Goals as goal

pub loop-i-preserved : goal.loop-i-preserved
loop-i-preserved c =
    let own = c.loop-i.self-inside.outs.items in
    let row = c.args.row.now in
    let to = c.args.to in
    let count = c.args.count in
    let i = c.loop-i.i in
    let rest = columns_from (row_of_outs row) (i + 1) (count - (i + 1)) in
    ap (λ l. put_all l (to + (i + 1)) rest) (c.write_to.ensures ∙ ap (slice_set own (to + i)) c.in_ok-out.ensures)
    ∙ one_loaded own row to count i (omega arith)
    ∙ c.loop-i.invariant
