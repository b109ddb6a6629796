use Rattle.std.proofs.Common.{◌≡◌, ℕ, length, ap, ◌∙◌, arith}
use Rattle.gen_loop.specs.Stretches.{opened_all}
use Rattle.gen_loop.proofs.Cursors.{opened-cursors, opened-most, opened-next, opened-units}
use Rattle.gen_loop.proofs.Seeking.{found-cursors, found-units}
use Rattle.gen_loop.proofs.Sorted.{sorted-does, sorted-steady}
use Rattle.gen_loop.proofs.Tables.{with_sorter}
use Rattle.vm_code.specs.Draft.{Draft}
use Rattle.gen_loop.proofs.sorting.emit_sorted.Goals as goal

pub emit_gathering-requires-clause-counted : goal.emit_gathering-requires-clause-counted
emit_gathering-requires-clause-counted g c =
    let a = c.args.b.now in
    let p = c.args.plan.now in
    let loops = p.loops in
    let opened : c.open_cursors.new.b ≡ opened_all a loops = c.in_ok-open_cursors.ensures ∙ ap (opened_all a) c.as_slice.ensures in
    let sorter_is : c.in_ok-sorter.sorter ≡ length loops = omega (arith, c.in_ok-sorter.ensures.0, ap (λ (d : Draft). d.cursors) opened, opened-cursors loops a, c.requires.first) in
    let is : c.op.new.self ≡ with_sorter (opened_all a loops) (length loops) = rw (c.in_ok-sorter.ensures.1, opened, sorter_is) at c.in_ok-op.ensures in
    omega (arith, c.requires.counted, ap (λ (d : Draft). d.next) is, ap (λ (d : Draft). d.most) is, opened-next loops a, opened-most loops a)

pub emit_walk-requires-clause-owned : goal.emit_walk-requires-clause-owned
emit_walk-requires-clause-owned g c =
    let a = c.args.b.now in
    let p = c.args.plan.now in
    let loops = p.loops in
    let opened : c.open_cursors.new.b ≡ opened_all a loops = c.in_ok-open_cursors.ensures ∙ ap (opened_all a) c.as_slice.ensures in
    let sorter_is : c.in_ok-sorter.sorter ≡ length loops = omega (arith, c.in_ok-sorter.ensures.0, ap (λ (d : Draft). d.cursors) opened, opened-cursors loops a, c.requires.first) in
    let is : c.op.new.self ≡ with_sorter (opened_all a loops) (length loops) = rw (c.in_ok-sorter.ensures.1, opened, sorter_is) at c.in_ok-op.ensures in
    omega (arith, c.requires.owned, c.in_ok-emit_gathering.ensures.nests.next, ap (λ (d : Draft). d.next) is, opened-next loops a)

pub emit_walk-requires-clause-counted : goal.emit_walk-requires-clause-counted
emit_walk-requires-clause-counted g c =
    let a = c.args.b.now in
    let p = c.args.plan.now in
    let loops = p.loops in
    let opened : c.open_cursors.new.b ≡ opened_all a loops = c.in_ok-open_cursors.ensures ∙ ap (opened_all a) c.as_slice.ensures in
    let sorter_is : c.in_ok-sorter.sorter ≡ length loops = omega (arith, c.in_ok-sorter.ensures.0, ap (λ (d : Draft). d.cursors) opened, opened-cursors loops a, c.requires.first) in
    let is : c.op.new.self ≡ with_sorter (opened_all a loops) (length loops) = rw (c.in_ok-sorter.ensures.1, opened, sorter_is) at c.in_ok-op.ensures in
    omega (arith, c.requires.counted, c.in_ok-emit_gathering.ensures.nests.next, c.in_ok-emit_gathering.ensures.nests.grows.most, ap (λ (d : Draft). d.next) is, ap (λ (d : Draft). d.most) is, opened-next loops a, opened-most loops a)

pub returns-clause-cursors : goal.returns-clause-cursors
returns-clause-cursors g c =
    let a = c.args.b.now in
    let p = c.args.plan.now in
    let loops = p.loops in
    let opened : c.open_cursors.new.b ≡ opened_all a loops = c.in_ok-open_cursors.ensures ∙ ap (opened_all a) c.as_slice.ensures in
    let sorter_is : c.in_ok-sorter.sorter ≡ length loops = omega (arith, c.in_ok-sorter.ensures.0, ap (λ (d : Draft). d.cursors) opened, opened-cursors loops a, c.requires.first) in
    let is : c.op.new.self ≡ with_sorter (opened_all a loops) (length loops) = rw (c.in_ok-sorter.ensures.1, opened, sorter_is) at c.in_ok-op.ensures in
    let cursors : Draft → ℕ = λ d. d.cursors in
    let walks = c.in_ok-emit_walk.ensures in
    omega (arith, ap cursors c.in_ok-op-2.ensures, ap cursors walks.is, walks.cursors, found-cursors c.emit_gathering.new.b c.in_ok-sorter.sorter, c.in_ok-emit_gathering.ensures.cursors, ap cursors is, opened-cursors loops a, c.requires.first)

pub returns-clause-does : goal.returns-clause-does
returns-clause-does g c =
    let a = c.args.b.now in
    let p = c.args.plan.now in
    let loops = p.loops in
    let opened : c.open_cursors.new.b ≡ opened_all a loops = c.in_ok-open_cursors.ensures ∙ ap (opened_all a) c.as_slice.ensures in
    let sorter_is : c.in_ok-sorter.sorter ≡ length loops = omega (arith, c.in_ok-sorter.ensures.0, ap (λ (d : Draft). d.cursors) opened, opened-cursors loops a, c.requires.first) in
    let is : c.op.new.self ≡ with_sorter (opened_all a loops) (length loops) = rw (c.in_ok-sorter.ensures.1, opened, sorter_is) at c.in_ok-op.ensures in
    let nests = rw (is, sorter_is) at c.in_ok-emit_gathering.ensures.nests in
    let wide = c.in_ok-emit_gathering.ensures.cursors ∙ ap (λ (d : Draft). d.cursors) is in
    let walks = rw sorter_is at c.in_ok-emit_walk.ensures in
    rw c.in_ok-op-2.ensures (sorted-does a c.emit_gathering.new.b c.emit_walk.new.b p (g.B.LoopBody.needs c.args.body.now) (g.B.LoopBody.own c.args.body.now) (g.B.LoopBody.effect c.args.body.now) (g.B.LoopBody.cost c.args.body.now) c.requires.owned c.requires.first c.requires.sorted nests wide walks)

pub returns-clause-steady : goal.returns-clause-steady
returns-clause-steady g c =
    let a = c.args.b.now in
    let p = c.args.plan.now in
    let loops = p.loops in
    let opened : c.open_cursors.new.b ≡ opened_all a loops = c.in_ok-open_cursors.ensures ∙ ap (opened_all a) c.as_slice.ensures in
    let sorter_is : c.in_ok-sorter.sorter ≡ length loops = omega (arith, c.in_ok-sorter.ensures.0, ap (λ (d : Draft). d.cursors) opened, opened-cursors loops a, c.requires.first) in
    let is : c.op.new.self ≡ with_sorter (opened_all a loops) (length loops) = rw (c.in_ok-sorter.ensures.1, opened, sorter_is) at c.in_ok-op.ensures in
    let nests = rw (is, sorter_is) at c.in_ok-emit_gathering.ensures.nests in
    let wide = c.in_ok-emit_gathering.ensures.cursors ∙ ap (λ (d : Draft). d.cursors) is in
    let walks = rw sorter_is at c.in_ok-emit_walk.ensures in
    rw c.in_ok-op-2.ensures (sorted-steady a c.emit_gathering.new.b c.emit_walk.new.b p (g.B.LoopBody.needs c.args.body.now) (g.B.LoopBody.own c.args.body.now) (g.B.LoopBody.effect c.args.body.now) (g.B.LoopBody.cost c.args.body.now) c.requires.owned c.requires.first c.requires.sorted nests wide walks)

pub returns-clause-units : goal.returns-clause-units
returns-clause-units g c =
    let a = c.args.b.now in
    let p = c.args.plan.now in
    let loops = p.loops in
    let opened : c.open_cursors.new.b ≡ opened_all a loops = c.in_ok-open_cursors.ensures ∙ ap (opened_all a) c.as_slice.ensures in
    let sorter_is : c.in_ok-sorter.sorter ≡ length loops = omega (arith, c.in_ok-sorter.ensures.0, ap (λ (d : Draft). d.cursors) opened, opened-cursors loops a, c.requires.first) in
    let is : c.op.new.self ≡ with_sorter (opened_all a loops) (length loops) = rw (c.in_ok-sorter.ensures.1, opened, sorter_is) at c.in_ok-op.ensures in
    let units : Draft → _ = λ d. d.units in
    let walks = c.in_ok-emit_walk.ensures in
    ap units c.in_ok-op-2.ensures
    ∙ ap units walks.is
    ∙ walks.units
    ∙ found-units c.emit_gathering.new.b c.in_ok-sorter.sorter
    ∙ c.in_ok-emit_gathering.ensures.units
    ∙ ap units is
    ∙ opened-units loops a
