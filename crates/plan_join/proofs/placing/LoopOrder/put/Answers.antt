use Rattle.std.proofs.Common.{◌≡◌, true, false, arith, sym, subst}
use Rattle.plan_join.specs.Orders.{IsSlotFor}
use Rattle.plan_join.specs.declared.placing.Placed.{Placed}
use Rattle.plan_join.proofs.Insertion.{put}
use Rattle.plan_join.proofs.placing.LoopOrder.put.Goals as goal

pub returns-then-slot-count : goal.returns-then-slot-count
returns-then-slot-count c = λ from place is.
    let old = c.args.self.now.items.items in
    let next : Placed = record { place = c.args.place; item = c.args.item } in
    let fits = subst (λ those. IsSlotFor those c.args.item.now c.slot-slot.result) c.as_slice.ensures.value c.slot-slot.ensures in
    put from old c.args.self.now.moved next c.slot-slot.result is (sym place) fits c.insert.new.self.items true c.in_ok-insert.ensures.items (λ not_moved. absurd (let bad : true ≡ false = not_moved in cc))

pub returns-else-slot-count : goal.returns-else-slot-count
returns-else-slot-count c = λ from place is.
    let old = c.args.self.now.items.items in
    let next : Placed = record { place = c.args.place; item = c.args.item } in
    let fits = subst (λ those. IsSlotFor those c.args.item.now c.slot-slot.result) c.as_slice.ensures.value c.slot-slot.ensures in
    put from old c.args.self.now.moved next c.slot-slot.result is (sym place) fits c.insert.new.self.items c.args.self.now.moved c.in_ok-insert.ensures.items (λ not_moved. (not_moved, omega arith))
