use Rattle.std.proofs.Common.{◌≡◌, None, ap, ◌∙◌, rules}
use Rattle.std.specs.Prelude.{slice_get}
use Rattle.std.specs.List.{filter}
use Rattle.eng_index.specs.Keys.{is_double, key_values}
use Rattle.eng_index.specs.Stored.{rowids_of}
use Rattle.eng_index.specs.declared.range.Range.{Range}
use Rattle.vm_tables.proofs.Finding.{first_rowid, found_doubles}
use Rattle.vm_tables.proofs.table.Table.first_double.Goals as goal

pub returns-clause-found : goal.returns-clause-found
returns-clause-found c =
    let rows = c.args.self.now in
    let terms = c.args.terms.now in
    let row = c.args.row.now in
    let range : Range = record { equal = c.in_ok-key_values.field-0; lower = None; upper = None } in
    let wanted : Range = record { equal = key_values terms row; lower = None; upper = None } in
    let same : range ≡ wanted = λ i. record { equal = c.in_ok-key_values.ensures i; lower = None; upper = None } in
    let first : c.copied.result ≡ slice_get c.in_ok-rowids.rowids.items 0 = search rules in
    first
    ∙ ap (λ l. slice_get l 0) (c.in_ok-rowids.ensures.found ∙ ap rowids_of (found_doubles terms row range rows same))
    ∙ first_rowid (filter (is_double terms row) rows)
