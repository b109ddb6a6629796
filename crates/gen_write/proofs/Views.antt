-- What the expressions of an INSERT see on the way: no row, and in CHECKs the row that is put.
use Rattle.std.proofs.Common.{◌≡◌, ℕ, zero, suc, List, [], ◌∷◌, None, refl, ap, ◌∙◌}
use Rattle.std.specs.Prelude.{slice_index_or}
use Rattle.bound_tree.specs.Exprs.{BoundExpr}
use Rattle.eng_value.specs.Casts.{store_as}
use Rattle.eng_value.specs.Environments.{Environment, ItemRow, environment, null_row, table_row}
use Rattle.eng_value.specs.Outs.{turned}
use Rattle.eng_value.specs.StoredRows.{StoredRow}
use Rattle.eng_value.specs.declared.value.Value.{Value}
use Rattle.gen_write.specs.Stretches.{scene_on, seen_from}
use Rattle.gen_write.proofs.Seeing.{value_of-same}
use Rattle.sql_meaning.specs.Expression.{value_of}
use Rattle.sql_meaning.specs.Rows.{at_row, stored_for, value_for}
use Rattle.sql_meaning.specs.declared.bound.PutColumn.{PutColumn}
use Rattle.std.specs.declared.option.Option.{Option}
use Rattle.std.specs.Prelude.{Some}
use Rattle.vm_code.specs.Machine.{Open, Scene, Setting, World, standing_on}
use Rattle.vm_code.specs.Frames.{Here, environment_of, surroundings_of}

-- the row stands beside the table
abbrev pub scene_at : ℕ → StoredRow → Scene
scene_at table r = record { cursors = standing_on r ∷ Open table None ∷ []; slots = [] }

env_in : (m : Setting) (h : Here) (scene : Scene) → h.scene ≡ scene → h.inputs.args ≡ [] → environment_of m h ≡ environment_of m (record h { scene = scene; inputs = record h.inputs { args = [] } })
env_in m h scene is args =
    ap (λ c. environment_of m (record h { scene = c })) is
    ∙ ap (λ l. environment_of m (record h { scene = scene; inputs = record h.inputs { args = l } })) args

no_row : (item : ℕ) → slice_index_or (null_row ∷ null_row ∷ []) item null_row ≡ slice_index_or [] item null_row
no_row zero = refl
no_row (suc zero) = refl
no_row (suc (suc k)) = refl

one_row : (r : ItemRow) (item : ℕ) → slice_index_or (r ∷ null_row ∷ []) item null_row ≡ slice_index_or (r ∷ []) item null_row
one_row r zero = refl
one_row r (suc zero) = refl
one_row r (suc (suc k)) = refl

pub sees-none : (m : Setting) (w : World) (table : ℕ) (h : Here) → h.scene ≡ scene_on table → h.inputs.args ≡ [] → (e : BoundExpr) → value_of e (environment_of m h) ≡ value_of e (seen_from m w)
sees-none m w table h scene args e =
    ap (value_of e) (env_in m h (scene_on table) scene args)
    ∙ value_of-same (environment (surroundings_of m h.shared) [] [] (null_row ∷ null_row ∷ [])) [] w no_row e

pub sees-row : (m : Setting) (w : World) (table : ℕ) (r : StoredRow) (h : Here) → h.scene ≡ scene_at table r → h.inputs.args ≡ [] → (e : BoundExpr) → value_of e (environment_of m h) ≡ value_of e (at_row (seen_from m w) r)
sees-row m w table r h scene args e =
    ap (value_of e) (env_in m h (scene_at table r) scene args)
    ∙ value_of-same (environment (surroundings_of m h.shared) [] [] (table_row r ∷ null_row ∷ [])) (table_row r ∷ []) w (one_row (table_row r)) e

-- what columns store where defaults come to the same
pub stored-same : (x y : Environment) (columns : List PutColumn) (source : List Value) → ((e : BoundExpr) → value_of e x ≡ value_of e y) → stored_for x columns source ≡ stored_for y columns source
stored-same x y [] source same = refl
stored-same x y (c ∷ columns) source same =
    ap (λ o. turned (store_as c.affinity) o ∷ stored_for x columns source) (by c.place c.default)
    ∙ ap (λ l. turned (store_as c.affinity) (value_for y source c.place c.default) ∷ l) (stored-same x y columns source same)
  where
    by : (place : Option ℕ) (default : Option BoundExpr) → value_for x source place default ≡ value_for y source place default
    by (Some place) default = refl
    by None None = refl
    by None (Some e) = same e
