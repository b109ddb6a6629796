use Rattle.std.proofs.Common.{◌≡◌, ◌≤◌, [], sym, ap, ◌∙◌, subst, arith}
use Rattle.gen_query.proofs.Fitting.{over-spread}
use Rattle.gen_query.proofs.Naming.{names-plan}
use Rattle.gen_query.proofs.Performing.{ended-accepted, query-performs}
use Rattle.vm_code.specs.Draft.{Draft, begun}
use Rattle.gen_query.proofs.compiling.compile.Goals as goal

pub emit-requires-clause-first : goal.emit-requires-clause-first
emit-requires-clause-first c =
    ap (λ (d : Draft). d.cursors) (c.new-b.ensures ∙ ap begun c.new.ensures)

pub emit-requires-clause-counted : goal.emit-requires-clause-counted
emit-requires-clause-counted c =
    let b0 : c.new-b.result ≡ begun [] = c.new-b.ensures ∙ ap begun c.new.ensures in
    subst (λ (d : Draft). d.next ≤ d.most) (sym b0) (omega arith)

pub returns-clause-performs : goal.returns-clause-performs
returns-clause-performs c =
    let b0 : c.new-b.result ≡ begun [] = c.new-b.ensures ∙ ap begun c.new.ensures in
    let does = rw (b0, c.as_slice.ensures) at c.in_ok-emit.ensures.does in
    let program = rw c.in_ok-op.ensures at c.finish_program.ensures in
    query-performs c.emit.new.b c.args.query.now c.args.plan.now does c.in_ok-emit.ensures.cursors c.finish_program.result program

pub returns-clause-accepted : goal.returns-clause-accepted
returns-clause-accepted c over small names =
    let q = c.args.query.now in
    let p = c.args.plan.now in
    let units : Draft → _ = λ d. d.units in
    let b0 : c.new-b.result ≡ begun [] = c.new-b.ensures ∙ ap begun c.new.ensures in
    let steady = rw (b0, c.as_slice.ensures) at c.in_ok-emit.ensures.steady in
    let alone = c.in_ok-emit.ensures.units ∙ ap units b0 in
    let program = rw c.in_ok-op.ensures at c.finish_program.ensures in
    ended-accepted c.emit.new.b (steady (over-spread q.from p.loops over) (names-plan q p over small names)) alone c.finish_program.result program
