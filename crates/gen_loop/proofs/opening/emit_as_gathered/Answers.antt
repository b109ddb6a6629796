use Rattle.std.proofs.Common.{◌≡◌, ℕ, ◌+◌, ◌≤◌, length, sym, ap, ◌∙◌, subst, arith}
use Rattle.gen_loop.specs.Stretches.{opened_all}
use Rattle.gen_loop.proofs.Around.{plan-does, plan-steady}
use Rattle.gen_loop.proofs.Cursors.{opened-cursors, opened-most, opened-next, opened-units}
use Rattle.vm_code.specs.Draft.{Draft}
use Rattle.gen_loop.proofs.opening.emit_as_gathered.Goals as goal

pub emit_gathering-requires-clause-owned : goal.emit_gathering-requires-clause-owned
emit_gathering-requires-clause-owned g c =
    let is : c.open_cursors.new.b ≡ opened_all c.args.b.now c.args.plan.now.loops = c.in_ok-open_cursors.ensures ∙ ap (opened_all c.args.b.now) c.as_slice.ensures in
    subst (λ n. g.B.LoopBody.own c.args.body.now ≤ n) (sym (ap (λ (d : Draft). d.next) is ∙ opened-next c.args.plan.now.loops c.args.b.now)) c.requires.owned

pub emit_gathering-requires-clause-counted : goal.emit_gathering-requires-clause-counted
emit_gathering-requires-clause-counted g c =
    let loops = c.args.plan.now.loops in
    let is : c.open_cursors.new.b ≡ opened_all c.args.b.now loops = c.in_ok-open_cursors.ensures ∙ ap (opened_all c.args.b.now) c.as_slice.ensures in
    subst (λ (d : Draft). d.next ≤ d.most) (sym is) (omega (arith, c.requires.counted, opened-next loops c.args.b.now, opened-most loops c.args.b.now))

pub returns-clause-does : goal.returns-clause-does
returns-clause-does g c =
    let is : c.open_cursors.new.b ≡ opened_all c.args.b.now c.args.plan.now.loops = c.in_ok-open_cursors.ensures ∙ ap (opened_all c.args.b.now) c.as_slice.ensures in
    let nests = rw is at c.in_ok-emit_gathering.ensures.nests in
    rw c.in_ok-op.ensures (plan-does c.args.b.now c.emit_gathering.new.b c.args.plan.now (g.B.LoopBody.needs c.args.body.now) (g.B.LoopBody.own c.args.body.now) (g.B.LoopBody.effect c.args.body.now) (g.B.LoopBody.cost c.args.body.now) c.requires.unsorted c.requires.first nests)

pub returns-clause-steady : goal.returns-clause-steady
returns-clause-steady g c =
    let is : c.open_cursors.new.b ≡ opened_all c.args.b.now c.args.plan.now.loops = c.in_ok-open_cursors.ensures ∙ ap (opened_all c.args.b.now) c.as_slice.ensures in
    let nests = rw is at c.in_ok-emit_gathering.ensures.nests in
    rw c.in_ok-op.ensures (plan-steady c.args.b.now c.emit_gathering.new.b c.args.plan.now (g.B.LoopBody.needs c.args.body.now) (g.B.LoopBody.own c.args.body.now) (g.B.LoopBody.effect c.args.body.now) (g.B.LoopBody.cost c.args.body.now) c.requires.unsorted c.requires.first nests)

pub returns-clause-units : goal.returns-clause-units
returns-clause-units g c =
    let loops = c.args.plan.now.loops in
    let units : Draft → _ = λ d. d.units in
    let is : c.open_cursors.new.b ≡ opened_all c.args.b.now loops = c.in_ok-open_cursors.ensures ∙ ap (opened_all c.args.b.now) c.as_slice.ensures in
    ap units c.in_ok-op.ensures ∙ c.in_ok-emit_gathering.ensures.units ∙ ap units is ∙ opened-units loops c.args.b.now

pub returns-clause-cursors : goal.returns-clause-cursors
returns-clause-cursors g c =
    let loops = c.args.plan.now.loops in
    let cursors : Draft → ℕ = λ d. d.cursors in
    let is : c.open_cursors.new.b ≡ opened_all c.args.b.now loops = c.in_ok-open_cursors.ensures ∙ ap (opened_all c.args.b.now) c.as_slice.ensures in
    ap cursors c.in_ok-op.ensures
    ∙ c.in_ok-emit_gathering.ensures.cursors
    ∙ ap cursors is
    ∙ opened-cursors loops c.args.b.now
    ∙ ap (λ n. n + length loops) c.requires.first
    ∙ omega arith
