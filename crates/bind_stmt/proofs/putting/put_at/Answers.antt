use Rattle.std.proofs.Common.{◌≡◌, List, Ok, refl, ap, subst, ◌∙◌}
use Rattle.bound_tree.specs.Exprs.{BoundExpr}
use Rattle.eng_index.specs.declared.key_term.KeyTerm.{KeyTerm}
use Rattle.sql_meaning.specs.Running.{columns_put, keys_of, rowid_from}
use Rattle.sql_meaning.specs.declared.bound.BoundInsert.{BoundInsert}
use Rattle.sql_meaning.specs.declared.bound.PutColumn.{PutColumn}
use Rattle.std.proofs.Common.{ℕ}
use Rattle.bind_stmt.proofs.Steps.{put-at-is, put_from}
use Rattle.bind_stmt.proofs.putting.put_at.Goals as goal

pub returns : goal.returns
returns c =
    let t = c.args.table.now in
    let target = c.args.target.now in
    let places = c.args.places.now in
    let rowid = c.in_ok-rowid.rowid in
    let columns = columns_put t.columns places target.defaults target.not_nulls in
    let are : c.in_ok-columns.columns ≡ columns = c.in_ok-columns.ensures ∙ ap (λ cs. columns_put cs places c.replace-defaults.result c.as_slice-not_nulls.result.now) c.as_slice.ensures
    ∙ ap (λ ds. columns_put t.columns places ds c.as_slice-not_nulls.result.now) c.replace-defaults.ensures.value ∙ ap (λ ms. columns_put t.columns places target.defaults ms) c.as_slice-not_nulls.ensures in
    let from : rowid_from columns t.rowid c.args.given ≡ Ok rowid = subst (λ cs. rowid_from cs t.rowid c.args.given ≡ Ok rowid) (c.as_slice-2.ensures ∙ are) c.in_ok-rowid.ensures in
    let keys = keys_of t.rowid target.item.indexes in
    let are_keys : c.in_ok-keys.keys ≡ keys = c.in_ok-keys.ensures ∙ ap (keys_of t.rowid) c.as_slice-3.ensures in
    let made : List ℕ → List PutColumn → List BoundExpr → List (List KeyTerm) → BoundInsert = λ name columns checks keys. record { table = t.number; name = name; columns = columns; rowid = rowid; checks = checks; keys = keys; rows = c.args.rows } in (
      put_from t columns target.checks keys c.args.rows rowid,
      put-at-is t target places c.args.given c.args.rows columns rowid refl from,
      ap (λ n. made n c.in_ok-columns.columns c.replace.result c.in_ok-keys.keys) c.in_ok-clone.ensures.cases ∙ ap (λ cs. made t.name cs c.replace.result c.in_ok-keys.keys) are
          ∙ ap (λ cs. made t.name columns cs c.in_ok-keys.keys) c.replace.ensures.value ∙ ap (made t.name columns target.checks) are_keys,
    )
