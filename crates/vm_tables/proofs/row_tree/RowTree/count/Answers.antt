use Rattle.std.proofs.Common.{◌≡◌, true, false, is_some, ap, sym, ◌∙◌, rules, w64, to_z, of_z}
use Rattle.vm_code.specs.Machine.{row_under}
use Rattle.vm_tables.proofs.Finding.{count_none, count_one}
use Rattle.vm_tables.proofs.row_tree.RowTree.count.Goals as goal

pub returns-then-has : goal.returns-then-has
returns-then-has c =
    let rows = c.args.self.now in
    let n : to_z w64 (of_z w64 c.args.rowid) ≡ c.args.rowid = search rules in
    let there : is_some (row_under rows c.args.rowid) ≡ true = ap (λ m. is_some (row_under rows m)) (sym n) ∙ sym c.has.ensures ∙ c.if-has.true in
    sym (count_one rows c.args.rowid c.order.ensures there)

pub returns-else-has : goal.returns-else-has
returns-else-has c =
    let rows = c.args.self.now in
    let n : to_z w64 (of_z w64 c.args.rowid) ≡ c.args.rowid = search rules in
    let absent : is_some (row_under rows c.args.rowid) ≡ false = ap (λ m. is_some (row_under rows m)) (sym n) ∙ sym c.has.ensures ∙ c.if-has.false in
    sym (count_none rows c.args.rowid c.order.ensures absent)
