use Rattle.std.proofs.Common.{◌≡◌, OnOk, subst}
use Rattle.bound_actions.specs.Writes.{opened}
use Rattle.bound_actions.specs.declared.listing.Listed.{Listed}
use Rattle.bound_actions.proofs.FiringLaws.{listed-now, opened-next}
use Rattle.bound_actions.proofs.firing.+firing.Goals as goal

pub list_once-returns : goal.list_once-returns
list_once-returns t c =
    subst (λ (l : Listed). OnOk c.list_opened.result (c.list_opened.new.listed ≡ l))
    (listed-now (opened c.args.units.now c.args.all.now c.args.left.now) c.args.units.now c.args.table.now c.args.place c.args.trigger.now c.args.listed.now c.mark.new.listed c.in_ok-spot.spot c.is_listed.result c.is_listed.ensures c.if-is_listed.false c.in_ok-mark.ensures c.in_ok-spot.ensures)
    c.list_opened.ensures

pub list_trigger-returns-in-len1-up : goal.list_trigger-returns-in-len1-up
list_trigger-returns-in-len1-up t c =
    subst (λ (l : Listed). OnOk c.list_placed.result (c.list_placed.new.listed ≡ l))
    (opened-next c.args.units.now c.args.all.now c.args.left.now c.args.table.now c.args.place c.args.listed.now c.in-len1-up.len_at_least)
    c.list_placed.ensures
