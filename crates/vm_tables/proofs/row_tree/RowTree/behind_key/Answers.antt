use Rattle.std.proofs.Common.{◌≡◌, ap, sym, subst, None, true, int_le, rules, w64, to_z, of_z, arith}
use Rattle.std.proofs.lemmas.Int.{ints}
use Rattle.eng_value.specs.declared.limits.TheConstants.{MAX_ROWID}
use Rattle.vm_code.specs.Machine.{row_behind}
use Rattle.vm_tables.specs.Rows.{on_row}
use Rattle.vm_tables.proofs.Stored.{none_behind}
use Rattle.vm_tables.proofs.row_tree.RowTree.behind_key.Goals as goal

pub returns-in-None : goal.returns-in-None
returns-in-None c =
    let n : to_z w64 (of_z w64 c.args.rowid) ≡ c.args.rowid = search rules in
    let fits = c.ranges.rowid in
    let past = c.in-None.ensures in
    let most : int_le MAX_ROWID c.args.rowid ≡ true = grind (arith, ints, fits, past, n) in
    sym (ap on_row (subst (λ rows. row_behind rows c.args.rowid ≡ None) c.self.view_is (none_behind c.self.inside.tree.pairs c.args.rowid c.self.invariant.0 most)))
