use Rattle.std.proofs.Common.{◌≡◌, IfOk, ap, sym, subst, ◌∙◌, rules, w64, to_z, of_z}
use Rattle.eng_index.specs.Keys.{found}
use Rattle.eng_index.specs.Stored.{rowids_of}
use Rattle.std.specs.List.{filter}
use Rattle.vm_tables.proofs.Finding.{has_rowid}
use Rattle.vm_tables.proofs.table.Table.search.Goals as goal

pub returns-in-Some-clause-found : goal.returns-in-Some-clause-found
returns-in-Some-clause-found c =
    let rows = c.self.inside.tree in
    let terms = c.args.terms.now in
    let range = c.args.range.now in
    let n : to_z w64 (of_z w64 c.in-Some.rowid) ≡ c.in-Some.rowid = search rules in
    let same = ap (λ m. rowids_of (filter (has_rowid m) rows)) n ∙ sym (ap rowids_of (c.in-Some.ensures rows)) ∙ ap (λ all. rowids_of (found terms range all)) c.self.view_is in
    subst (λ l. IfOk c.rowids.result (λ rowids. rowids.items ≡ l)) same c.rowids.ensures
