use Rattle.std.proofs.Common.{◌≡◌, ◌++◌, ◌∷◌, [], true, ap, ◌∙◌, rules, w64, to_z, of_z}
use Rattle.vm_code.specs.Machine.{is_free}
use Rattle.vm_tables.specs.declared.change.Change.TheVariants.{RowPut}
use Rattle.vm_tables.specs.Marked.{Marked}
use Rattle.vm_tables.proofs.Puts.{journal_logged, journal_put, marks_put}
use Rattle.vm_tables.proofs.tables.Tables.put.Goals as goal

pub invariant_of-self-then-is_empty : goal.invariant_of-self-then-is_empty
invariant_of-self-then-is_empty c =
    let free : is_free c.self.inside.tables.items c.args.table c.args.row.now.rowid ≡ true = ap (λ (t : Marked). is_free t.world c.args.table c.args.row.now.rowid) c.self.view_is ∙ c.requires in
    journal_put c.self.inside.tables.items c.self.inside.log.items c.self.inside.marks.items c.args.table c.args.row.now c.index_mut.result.now c.put.new.self c.self.invariant free c.index_mut.ensures.value c.in_ok-put.ensures.ok c.reserve.new.self.items c.in_ok-reserve.ensures.items

pub invariant_of-self-2 : goal.invariant_of-self-2
invariant_of-self-2 c =
    let free : is_free c.self.inside.tables.items c.args.table c.args.row.now.rowid ≡ true = ap (λ (t : Marked). is_free t.world c.args.table c.args.row.now.rowid) c.self.view_is ∙ c.requires in
    let n : to_z w64 (of_z w64 c.rowid-rowid.result) ≡ c.args.row.now.rowid = search rules in
    let log = c.push_reserved.ensures.items ∙ ap (λ l. l ++ RowPut c.args.table (to_z w64 (of_z w64 c.rowid-rowid.result)) ∷ []) c.in_ok-reserve.ensures.items ∙ ap (λ k. c.self.inside.log.items ++ RowPut c.args.table k ∷ []) n in
    journal_logged c.self.inside.tables.items c.self.inside.log.items c.self.inside.marks.items c.args.table c.args.row.now c.index_mut.result.now c.put.new.self c.self.invariant free c.index_mut.ensures.value c.in_ok-put.ensures.ok c.push_reserved.new.self.items log

pub returns-clause-marks : goal.returns-clause-marks
returns-clause-marks c =
    let free : is_free c.self.inside.tables.items c.args.table c.args.row.now.rowid ≡ true = ap (λ (t : Marked). is_free t.world c.args.table c.args.row.now.rowid) c.self.view_is ∙ c.requires in
    let n : to_z w64 (of_z w64 c.rowid-rowid.result) ≡ c.args.row.now.rowid = search rules in
    let log = c.push_reserved.ensures.items ∙ ap (λ l. l ++ RowPut c.args.table (to_z w64 (of_z w64 c.rowid-rowid.result)) ∷ []) c.in_ok-reserve.ensures.items ∙ ap (λ k. c.self.inside.log.items ++ RowPut c.args.table k ∷ []) n in
    marks_put c.self.inside.tables.items c.self.inside.log.items c.self.inside.marks.items c.args.table c.args.row.now c.index_mut.result.now c.put.new.self c.self.invariant free c.index_mut.ensures.value c.in_ok-put.ensures.ok c.push_reserved.new.self.items log
    ∙ ap (λ (t : Marked). t.marks) c.self.view_is
