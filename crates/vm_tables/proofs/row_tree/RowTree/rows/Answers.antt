use Rattle.std.proofs.Common.{◌≡◌, ap, subst, sym, ◌∙◌, rules, w64, to_z, of_z}
use Rattle.vm_code.specs.Machine.{row_behind, row_under}
use Rattle.vm_tables.specs.Rows.{on_row, values_of}
use Rattle.vm_tables.proofs.Stored.{Remains, none_remain, one_more}
use Rattle.vm_tables.proofs.row_tree.RowTree.rows.Goals as goal

pub loop-next-preserved : goal.loop-next-preserved
loop-next-preserved c =
    let all = c.args.self.now in
    let n : to_z w64 (of_z w64 c.in-Some.rowid) ≡ c.in-Some.rowid = search rules in
    let left = subst (Remains all c.loop-next.rows.items) c.in-Some.is c.loop-next.invariant in
    let values = c.new.ensures.values ∙ c.in_ok-values.ensures ∙ ap (λ m. values_of (row_under all m)) n in
    let behind = c.behind-next.ensures ∙ ap (λ m. on_row (row_behind all m)) n in
    subst (λ items. Remains all items c.behind-next.result) (sym c.in_ok-push.ensures.items) (one_more all c.loop-next.rows.items c.in-Some.rowid c.order.ensures left c.new.result c.behind-next.result (c.new.ensures.rowid ∙ n) values behind)

pub returns : goal.returns
returns c =
    none_remain c.args.self.now c.loop-next.rows.items (subst (Remains c.args.self.now c.loop-next.rows.items) c.in_default.is c.loop-next.invariant)
