use Rattle.std.proofs.Common.{◌≡◌, ◌++◌, ◌∷◌, [], true, false, is_some, ap, sym, ◌∙◌, rules, w64, to_z, of_z}
use Rattle.vm_code.specs.Machine.{row_under}
use Rattle.vm_tables.proofs.Finding.{rowids_none, rowids_one}
use Rattle.vm_tables.proofs.row_tree.RowTree.rowids.Goals as goal

pub returns-then-not-has : goal.returns-then-not-has
returns-then-not-has c =
    let rows = c.args.self.now in
    let n : to_z w64 (of_z w64 c.args.rowid) ≡ c.args.rowid = search rules in
    let no : c.has.result ≡ false = search rules in
    let absent : is_some (row_under rows c.args.rowid) ≡ false = ap (λ m. is_some (row_under rows m)) (sym n) ∙ sym c.has.ensures ∙ no in
    c.new-rowids.ensures.items ∙ sym (rowids_none rows c.args.rowid c.order.ensures absent)

pub returns : goal.returns
returns c =
    let rows = c.args.self.now in
    let n : to_z w64 (of_z w64 c.args.rowid) ≡ c.args.rowid = search rules in
    let yes_it : c.has.result ≡ true = search rules in
    let there : is_some (row_under rows c.args.rowid) ≡ true = ap (λ m. is_some (row_under rows m)) (sym n) ∙ sym c.has.ensures ∙ yes_it in
    c.in_ok-push.ensures.items
    ∙ ap (λ l. l ++ to_z w64 (of_z w64 c.args.rowid) ∷ []) c.new-rowids.ensures.items
    ∙ ap (λ m. m ∷ []) n
    ∙ sym (rowids_one rows c.args.rowid c.order.ensures there)
