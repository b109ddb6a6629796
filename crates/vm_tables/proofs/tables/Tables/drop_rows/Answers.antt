use Rattle.std.proofs.Common.{◌≡◌, ◌++◌, ◌∷◌, ◌<◌, [], List, ap, sym, subst, ◌∙◌, length, get_or, rules}
use Rattle.std.specs.Prelude.{slice_set}
use Rattle.eng_value.specs.StoredRows.{StoredRow}
use Rattle.vm_code.specs.Machine.{World}
use Rattle.vm_tables.specs.declared.change.Change.TheVariants.{RowsDropped}
use Rattle.vm_tables.specs.Marked.{Marked}
use Rattle.vm_tables.proofs.Puts.{journal_dropped, marks_dropped}
use Rattle.vm_tables.proofs.tables.Tables.drop_rows.Goals as goal
use Rattle.vm_tables.proofs.tables.Tables.drop_rows.Goals.{After-push_reserved}

module _ (c : After-push_reserved) where
  abbrev w : World
  w = c.self.inside.tables.items

  abbrev rows : List StoredRow
  rows = c.replace-rows.result

  there : c.args.table < length w
  there = search rules

  is : rows ≡ get_or w c.args.table rows
  is = subst (λ rs. rs ≡ get_or w c.args.table rs) (sym c.replace-rows.ensures.value) c.index_mut.ensures.value

  emptied : slice_set w c.args.table c.replace-rows.new.dest ≡ slice_set w c.args.table []
  emptied = ap (slice_set w c.args.table) (c.replace-rows.ensures.after ∙ c.new.ensures)

  logged : c.push_reserved.new.self.items ≡ c.self.inside.log.items ++ RowsDropped c.args.table rows ∷ []
  logged = c.push_reserved.ensures.items ∙ ap (λ l. l ++ RowsDropped c.args.table rows ∷ []) c.in_ok-reserve.ensures.items

pub invariant_of-self-2 : goal.invariant_of-self-2
invariant_of-self-2 c =
    journal_dropped (w c) (slice_set (w c) c.args.table c.replace-rows.new.dest) c.self.inside.log.items c.self.inside.marks.items c.args.table (rows c) c.self.invariant (there c) (is c) (emptied c) c.push_reserved.new.self.items (logged c)

pub returns-clause-marks : goal.returns-clause-marks
returns-clause-marks c =
    marks_dropped (w c) (slice_set (w c) c.args.table c.replace-rows.new.dest) c.self.inside.log.items c.self.inside.marks.items c.args.table (rows c) c.self.invariant (there c) (is c) (emptied c) c.push_reserved.new.self.items (logged c)
    ∙ ap (λ (t : Marked). t.marks) c.self.view_is
