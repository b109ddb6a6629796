use Rattle.std.proofs.Common.{◌+◌, ◌≤◌, ◌<◌, ap, sym, ◌∙◌, add-one, length, length-set, arith}
use Rattle.std.specs.Prelude.{slice_set}
use Rattle.vm_code.specs.Machine.{Closed, closed_from}
use Rattle.vm_core.proofs.Closing.{closed_none, closed_one}
use Rattle.vm_core.proofs.cursor.close_from.Goals as goal

pub loop-number-preserved : goal.loop-number-preserved
loop-number-preserved c =
    let i = c.loop-number.invariant in
    let xs = c.loop-number.cursors.items in
    let k = c.loop-number.number in
    let lt : k < length xs = omega (arith, i.long) in
    record {
      closed =
          ap (λ x. closed_from (k + 1) (slice_set xs k x)) c.closed.ensures
          ∙ ap (λ n. closed_from n (slice_set xs k Closed)) (add-one k)
          ∙ closed_one xs k lt
          ∙ i.closed;
      long = length-set xs k c.closed.result ∙ i.long;
    }

pub returns : goal.returns
returns c =
    let i = c.loop-number.invariant in
    let le : length c.loop-number.cursors.items ≤ c.loop-number.number = omega (arith, i.long) in
    sym (closed_none c.loop-number.cursors.items c.loop-number.number le) ∙ i.closed
