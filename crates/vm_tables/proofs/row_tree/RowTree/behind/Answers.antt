use Rattle.std.proofs.Common.{◌≡◌, suc, ap, sym, subst, ◌∙◌, arith, rules, w64, to_z, of_z}
use Rattle.std.specs.Prelude.{slice_get}
use Rattle.vm_tables.specs.Rows.{on_row}
use Rattle.vm_tables.specs.Stored.{StandsAt}
use Rattle.vm_tables.proofs.Places.{behind_there}
use Rattle.vm_tables.proofs.row_tree.RowTree.behind.Goals as goal

pub returns-in-Some : goal.returns-in-Some
returns-in-Some c =
    let n : to_z w64 (of_z w64 c.args.rowid) ≡ c.args.rowid = search rules in
    let here = subst (StandsAt c.args.self.now c.args.near.now) n (c.stands_at.ensures c.if-stands_at.true) in
    let is = c.in-Some.ensures in
    let next : c.in-Some.next ≡ suc c.args.near.now = grind (arith, is) in
    c.rowid_at.ensures
    ∙ ap (λ k. on_row (slice_get c.args.self.now k)) next
    ∙ ap on_row (sym (behind_there c.args.self.now c.args.near.now c.args.rowid c.order.ensures here))
