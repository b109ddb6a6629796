use Rattle.std.proofs.Common.{◌≡◌, ◌+◌, ◌-◌, ap, ◌∙◌, arith}
use Rattle.gen_loop.proofs.Collecting.{collect-does, collect-keeps}
use Rattle.vm_code.specs.Draft.{Draft}
use Rattle.gen_loop.proofs.sorting.CollectorLoopBody.emit.Goals as goal

pub returns-clause-does : goal.returns-clause-does
returns-clause-does c =
    let next : Draft → _ = λ d. d.next in
    let first_is = c.next_register-first.ensures in
    let copy_is = c.in_ok-copy.ensures.0 in
    let fills = c.in_ok-emit_rowids.ensures.fills in
    let behind : c.next_register.result ≡ c.emit_rowids.new.b.next + 1 = c.next_register.ensures ∙ ap next c.in_ok-op.ensures ∙ ap next c.in_ok-copy.ensures.1 in
    let count : c.next_register.result - c.next_register-first.result ≡ c.args.self.now.width + 1 = omega (arith, behind, first_is, fills.next) in
    rw (c.release.ensures, c.in_ok-op-2.ensures, c.in_ok-op.ensures, c.in_ok-copy.ensures.1, count, copy_is, first_is) (collect-does c.args.b.now c.emit_rowids.new.b c.args.self.now.width c.args.causes fills c.requires.taken)

pub returns-clause-keeps : goal.returns-clause-keeps
returns-clause-keeps c = collect-keeps c.args.self.now.width

pub returns-clause-units : goal.returns-clause-units
returns-clause-units c =
    let units : Draft → _ = λ d. d.units in
    ap units c.release.ensures
    ∙ ap units c.in_ok-op-2.ensures
    ∙ ap units c.in_ok-op.ensures
    ∙ ap units c.in_ok-copy.ensures.1
    ∙ c.in_ok-emit_rowids.ensures.units

pub returns-clause-cursors : goal.returns-clause-cursors
returns-clause-cursors c =
    let cursors : Draft → _ = λ d. d.cursors in
    ap cursors c.release.ensures
    ∙ ap cursors c.in_ok-op-2.ensures
    ∙ ap cursors c.in_ok-op.ensures
    ∙ ap cursors c.in_ok-copy.ensures.1
    ∙ c.in_ok-emit_rowids.ensures.cursors
