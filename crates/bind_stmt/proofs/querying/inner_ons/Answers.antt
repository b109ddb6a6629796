use Rattle.std.proofs.Common.{ap, ◌∙◌, ◌++◌, map, take}
use Rattle.bound_ignored.specs.Erased.{erased, marks_of}
use Rattle.bind_stmt.specs.Steps.{inner_ons}
use Rattle.bind_stmt.proofs.Froms.{inner-next}
use Rattle.bind_stmt.proofs.querying.inner_ons.Goals as goal

pub loop-item-preserved : goal.loop-item-preserved
loop-item-preserved c =
    let m = marks_of c.args.marks.now in
    let done = map (erased m) (inner_ons (take c.loop-item.item-index c.args.items.now)) in
    c.in_ok-append.ensures ∙ ap (λ all. all ++ c.in_ok-inner_on.field-0) c.loop-item.invariant ∙ ap (λ ons. done ++ ons) c.in_ok-inner_on.ensures
    ∙ inner-next m c.args.items.now c.loop-item.item-index c.item-item.result c.loop-item-test.true c.item-item.is
