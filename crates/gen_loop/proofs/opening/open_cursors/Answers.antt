use Rattle.std.proofs.Common.{[], ◌∷◌, ◌++◌, take, sym, ap, ◌∙◌, arith}
use Rattle.std.proofs.lemmas.List.{take_all, take_more}
use Rattle.gen_loop.specs.Stretches.{opened_each}
use Rattle.gen_loop.proofs.Cursors.{opened-push}
use Rattle.vm_code.specs.Draft.{with_op}
use Rattle.vm_code.specs.declared.op.Op.TheVariants as op
use Rattle.gen_loop.proofs.opening.open_cursors.Goals as goal

pub loop-each-preserved : goal.loop-each-preserved
loop-each-preserved c =
    let i = c.loop-each.each-index in
    let all = c.args.loops.now in
    let one = c.each-item.result in
    let start = c.take_cursors.new.b in
    let more = take_more all i one c.loop-each-test.true ∙ ap (λ x. take i all ++ x ∷ []) (sym c.each-item.is) in
    c.in_ok-op.ensures
    ∙ ap (λ d. with_op d (op.OpenRead one.place one.table)) c.loop-each.invariant
    ∙ sym (opened-push (take i all) one start)
    ∙ ap (opened_each start) (sym more)

pub returns : goal.returns
returns c =
    let all = c.args.loops.now in
    c.loop-each.invariant
    ∙ ap (opened_each c.take_cursors.new.b) (take_all c.loop-each.each-index all (omega arith))
    ∙ ap (λ d. opened_each d all) c.in_ok-take_cursors.ensures
