use Rattle.std.proofs.Common.{◌≡◌, ap, length, sym, ◌∙◌, rules, w64, to_z, of_z}
use Rattle.eng_index.specs.Keys.{found}
use Rattle.std.specs.List.{filter}
use Rattle.vm_tables.proofs.Finding.{has_rowid}
use Rattle.vm_tables.proofs.table.Table.count.Goals as goal

pub returns-in-Some : goal.returns-in-Some
returns-in-Some c =
    let rows = c.self.inside.tree in
    let terms = c.args.terms.now in
    let range = c.args.range.now in
    let n : to_z w64 (of_z w64 c.in-Some.rowid) ≡ c.in-Some.rowid = search rules in
    c.count.ensures ∙ ap (λ m. length (filter (has_rowid m) rows)) n ∙ sym (ap length (c.in-Some.ensures rows)) ∙ ap (λ all. length (found terms range all)) c.self.view_is
