use Rattle.std.proofs.Common.{◌≡◌, ℕ, [], ◌∷◌, List, Some, None, ap, sym, arith}
use Rattle.std.proofs.lemmas.Result.{IfOk-weaker}
use Rattle.eng_value.specs.Casts.{store_as}
use Rattle.eng_value.specs.Environments.{Environment}
use Rattle.eng_value.specs.Outs.{turned}
use Rattle.eng_value.specs.declared.value.Value.{Value}
use Rattle.gen_write.specs.Writes.{column_steps, column_with, default_needs, stored_steps}
use Rattle.gen_write.proofs.Columns.{held_as, stores_as, stores_wider}
use Rattle.gen_expr.proofs.Covering.{covers_none}
use Rattle.gen_write.proofs.rows.emit_column.Goals as goal
use Rattle.sql_meaning.specs.Rows.{stored_for, value_for}
use Rattle.sql_meaning.specs.declared.bound.PutColumn.{PutColumn}

-- a column with a value stores that, and one without its default
with_value : (c : PutColumn) (place : ℕ) → c.place ≡ Some place → (env : Environment) (values : List Value) → stored_for env (column_with c.affinity (Some place) None ∷ []) values ≡ stored_for env (c ∷ []) values
with_value c place is env values = sym (ap (λ p. turned (store_as c.affinity) (value_for env values p c.default) ∷ []) is)

few_value : (c : PutColumn) (place : ℕ) → c.place ≡ Some place → column_steps (column_with c.affinity (Some place) None) ≡ column_steps c
few_value c place is = sym (ap (λ p. stored_steps p c.default) is)

without_value : (c : PutColumn) → c.place ≡ None → (env : Environment) (values : List Value) → stored_for env (column_with c.affinity None c.default ∷ []) values ≡ stored_for env (c ∷ []) values
without_value c is env values = sym (ap (λ p. turned (store_as c.affinity) (value_for env values p c.default) ∷ []) is)

few_default : (c : PutColumn) → c.place ≡ None → column_steps (column_with c.affinity None c.default) ≡ column_steps c
few_default c is = sym (ap (λ p. stored_steps p c.default) is)

pub returns-in-Some-clause-stores : goal.returns-in-Some-clause-stores
returns-in-Some-clause-stores c =
    let x = c.args.column.now in
    let place = c.in-Some.place in
    IfOk-weaker c.emit_value.result _ _ (λ may s. stores_as c.args.causes c.args.kept.now (column_with x.affinity (Some place) None) x (with_value x place c.in-Some.is) (omega (arith, few_value x place c.in-Some.is)) (stores_wider (default_needs x) (covers_none (default_needs x)) s)) c.emit_value.ensures.stores

pub returns-in-Some-clause-held : goal.returns-in-Some-clause-held
returns-in-Some-clause-held c =
    let x = c.args.column.now in
    let place = c.in-Some.place in
    IfOk-weaker c.emit_value.result _ _ (λ may h none. held_as c.args.kept.now (column_with x.affinity (Some place) None) x (with_value x place c.in-Some.is) (h none)) c.emit_value.ensures.held

pub returns-in-None-clause-stores : goal.returns-in-None-clause-stores
returns-in-None-clause-stores c =
    let x = c.args.column.now in
    IfOk-weaker c.emit_default.result _ _ (λ may s. stores_as c.args.causes c.args.kept.now (column_with x.affinity None x.default) x (without_value x c.in-None.is) (omega (arith, few_default x c.in-None.is)) s) c.emit_default.ensures.stores

pub returns-in-None-clause-held : goal.returns-in-None-clause-held
returns-in-None-clause-held c =
    let x = c.args.column.now in
    IfOk-weaker c.emit_default.result _ _ (λ may h none. held_as c.args.kept.now (column_with x.affinity None x.default) x (without_value x c.in-None.is) (h none)) c.emit_default.ensures.held
