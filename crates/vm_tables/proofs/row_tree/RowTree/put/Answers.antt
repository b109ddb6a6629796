use Rattle.std.proofs.Common.{◌≡◌, ap, sym, subst, ◌∙◌, rules, w64, to_z, of_z, Ok, None}
use Rattle.eng_key.specs.Rowids.{IsRowid, rowid_key}
use Rattle.eng_record.specs.Reading.{reading}
use Rattle.eng_record.specs.Spelling.{spelling}
use Rattle.eng_tree.specs.Map.{put}
use Rattle.vm_code.specs.Machine.{put_row, row_under}
use Rattle.vm_tables.specs.Stored.{IsStored, rows_in}
use Rattle.vm_tables.proofs.Stored.{free_key, put_rows, stored_put}
use Rattle.vm_tables.proofs.row_tree.RowTree.put.Goals as goal
use Rattle.vm_tables.proofs.row_tree.RowTree.put.Goals.{Joined-branch-4}

module _ (c : Joined-branch-4) where
  abbrev row : Rattle.eng_value.specs.StoredRows.StoredRow
  row = c.args.row.now

  is : IsRowid row.rowid
  is = search rules

  key : c.in_ok-key.key ≡ rowid_key row.rowid
  key =
      let n : to_z w64 (of_z w64 c.rowid.result) ≡ row.rowid = search rules in
      c.in_ok-key.ensures ∙ c.rowid_key.ensures ∙ ap rowid_key n

  bytes : c.new.result ≡ c.in_ok-record.record
  bytes = c.new.ensures ∙ c.into_vec.ensures

  spelled : c.new.result ≡ spelling row.values
  spelled = bytes ∙ c.in_ok-record.ensures.spelled ∙ ap spelling c.values.ensures

  read : reading c.new.result ≡ Ok row.values
  read = ap reading bytes ∙ c.in_ok-record.ensures.again ∙ ap Ok c.values.ensures

  pairs : c.insert.new.self.pairs ≡ put (rowid_key row.rowid) c.new.result c.self.inside.tree.pairs
  pairs = c.in_ok-insert.ensures.pairs ∙ ap (λ k. put k c.new.result c.self.inside.tree.pairs) key

  free : row_under (rows_in c.self.inside.tree.pairs) row.rowid ≡ None
  free = subst (λ rows. row_under rows row.rowid ≡ None) (sym c.self.view_is) c.requires

pub invariant_of-self-2 : goal.invariant_of-self-2
invariant_of-self-2 c =
    subst IsStored (sym (pairs c)) (stored_put c.args.row.now c.new.result (is c) (spelled c) (read c) c.self.inside.tree.pairs c.self.invariant)

pub returns-clause-ok : goal.returns-clause-ok
returns-clause-ok c =
    let ps = c.self.inside.tree.pairs in
    subst (λ rows. rows_in c.insert.new.self.pairs ≡ put_row rows c.args.row.now) c.self.view_is
    (ap rows_in (pairs c) ∙ put_rows c.args.row.now c.new.result (is c) (spelled c) (read c) ps c.self.invariant.0 (free_key c.args.row.now.rowid (is c) ps c.self.invariant.0 (free c)))
