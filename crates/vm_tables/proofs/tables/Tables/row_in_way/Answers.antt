use Rattle.std.proofs.Common.{◌≡◌, ◌≤◌, [], length, ap, sym, ◌∙◌, rules}
use Rattle.eng_index.specs.Keys.{row_in_way}
use Rattle.vm_code.specs.Machine.{rows_of}
use Rattle.vm_tables.specs.Marked.{Marked}
use Rattle.vm_tables.specs.Rows.{on_row}
use Rattle.vm_tables.proofs.Finding.{no_rows, none_in_way}
use Rattle.vm_tables.proofs.tables.Tables.row_in_way.Goals as goal

pub returns-then-place-len-clause-found : goal.returns-then-place-len-clause-found
returns-then-place-len-clause-found c =
    let w = c.self.inside.tables.items in
    let past : length w ≤ c.args.table = search rules in
    let none : rows_of c.args.self.now.world c.args.table ≡ [] = ap (λ (t : Marked). rows_of t.world c.args.table) (sym c.self.view_is) ∙ no_rows w c.args.table past in
    sym (ap (λ rows. on_row (row_in_way c.args.keys.now rows c.args.row.now)) none ∙ ap on_row (none_in_way c.args.keys.now c.args.row.now))
