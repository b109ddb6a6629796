use Rattle.std.proofs.Common.{◌≡◌, suc, ◌+◌, ◌-◌, sym, ap, ◌∙◌, arith}
use Rattle.gen_loop.specs.Sorting.{sought_all}
use Rattle.vm_code.specs.Draft.{with_op}
use Rattle.vm_code.specs.declared.op.Op.TheVariants as op
use Rattle.gen_loop.proofs.sorting.emit_seeks.Goals as goal

pub loop-rowid-init : goal.loop-rowid-init
loop-rowid-init c =
    let none : 0 ≡ c.args.first - c.args.first = omega arith in
    ap (sought_all c.args.b.now c.args.first) none

pub loop-rowid-preserved : goal.loop-rowid-preserved
loop-rowid-preserved c =
    let first = c.args.first in
    let rowid = c.loop-rowid.rowid in
    let n = rowid - first in
    let there : first + n ≡ rowid = omega (arith, c.loop-rowid.auto.rowid) in
    let more : suc n ≡ rowid + 1 - first = omega (arith, c.loop-rowid.auto.rowid) in
    c.in_ok-op.ensures
    ∙ ap (λ d. with_op d (op.SeekRowid n rowid)) c.loop-rowid.invariant
    ∙ ap (λ r. with_op (sought_all c.args.b.now first n) (op.SeekRowid n r)) (sym there)
    ∙ ap (sought_all c.args.b.now first) more

pub returns : goal.returns
returns c =
    let all : c.loop-rowid.rowid - c.args.first ≡ c.args.end - c.args.first = omega (arith, c.loop-rowid.auto.rowid, c.loop-rowid.auto.rowid-end, c.loop-rowid-test.false) in
    c.loop-rowid.invariant ∙ ap (sought_all c.args.b.now c.args.first) all
