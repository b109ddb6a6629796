-- What a row comes to, test by test.
use Rattle.std.proofs.Common.{◌≡◌, ℕ, ◌+◌, ◌≤◌, ◌<◌, Bool, true, false, List, [], ◌∷◌, ◌++◌, length, map, fold, ℤ, Option, Some, None, Ok, Err, if◌then◌else◌, nat_lt, refl, sym, ap, ◌∙◌, arith}
use Rattle.std.specs.Prelude.{slice_index_or, slice_set}
use Rattle.std.proofs.lemmas.Bool.{ltb-false, ltb-true}
use Rattle.std.proofs.lemmas.List.{get_or_append_left, get_or_past, set_past}
use Rattle.std.proofs.Math.Seq.{get_or-append_seam}
use Rattle.eng_value.specs.Causes.{CauseSet, only}
use Rattle.eng_value.specs.Environments.{Environment, no_causes, with_causes}
use Rattle.eng_value.specs.StoredRows.{StoredRow}
use Rattle.eng_value.specs.Written.{Written}
use Rattle.eng_value.specs.declared.cause.Cause.TheVariants.{Constraint}
use Rattle.eng_value.specs.declared.cause.ConstraintKind.TheVariants as constraint
use Rattle.eng_value.specs.declared.out.Out.{Out}
use Rattle.eng_value.specs.declared.out.Out.TheVariants.{Good, Bad}
use Rattle.eng_value.specs.declared.value.Value.{Value}
use Rattle.eng_value.specs.declared.value.Value.TheVariants as value
use Rattle.gen_write.specs.Stretches.{first_broken}
use Rattle.gen_write.specs.Writes.{columns_beside, is_within, row_effect, rowid_given}
use Rattle.gen_write.proofs.Causing.{calm-good}
use Rattle.gen_write.proofs.Checking.{checked-is, effect_by}
use Rattle.sql_meaning.specs.Rows.{NewRow, at_row, checked, fitted, fixed, given_rowid, good_or_null, is_met, lacks_value, new_by, new_row, rowid_beside, rowid_column, stored_for, unless_broken}
use Rattle.sql_meaning.specs.Steps.{Effect, Step, Done, Fails, ◌then◌, done, settled}
use Rattle.sql_meaning.specs.declared.bound.BoundInsert.{BoundInsert}
use Rattle.sql_meaning.specs.declared.bound.RowidFrom.{RowidFrom}
use Rattle.sql_meaning.specs.declared.bound.RowidFrom.TheVariants as rowid
use Rattle.sql_meaning.specs.World.{seen, stored, with_column}
use Rattle.vm_code.specs.Machine.{is_bad, rows_of, with_row}

-- ---- the steps of a row

module _ (env : Environment) (b : BoundInsert) (source : List Value) (x : Written) where
  abbrev rows : List StoredRow
  rows = rows_of x.world b.table

  abbrev put : StoredRow → Written → Effect
  put row y = done (with_row y b.table row)

  abbrev whole : NewRow → Written → Effect
  whole new y = fitted env b (rows_of y.world b.table) new y then λ row y. put row y

  pub effect_bad : (causes : CauseSet) → new_row env b source ≡ Err causes → row_effect env b source x ≡ Fails causes x
  effect_bad causes e = ap (λ r. settled r x then λ new y. whole new y) e

  module _ (new : NewRow) (made : new_row env b source ≡ Ok new) where
    abbrev pub row_with : ℤ → StoredRow
    row_with n = seen (rowid_column b.rowid) (record { rowid = n; values = new.values })

    abbrev pub row_stored : ℤ → StoredRow
    row_stored n = stored (rowid_column b.rowid) (row_with n)

    abbrev at_last : ℤ → Written → Step StoredRow
    at_last n y = unless_broken (is_met b.keys rows (row_stored n)) (Constraint constraint.Unique b.name) y then λ u y. Done (row_stored n) y

    abbrev behind_nulls : ℤ → Written → Step StoredRow
    behind_nulls n y = checked b.name b.checks (at_row env (row_with n)) y then λ u y. at_last n y

    abbrev tests : ℤ → Written → Step StoredRow
    tests n y =
        unless_broken (lacks_value b.columns (row_with n).values) (Constraint constraint.NotNull b.name) y then λ u y. behind_nulls n y

    effect_new : row_effect env b source x ≡ (fitted env b rows new x then λ row y. put row y)
    effect_new = ap (λ r. settled r x then λ new y. whole new y) made

    pub effect_unfixed : (causes : CauseSet) → fixed b.name rows new.rowid x ≡ Fails causes x → row_effect env b source x ≡ Fails causes x
    effect_unfixed causes e = effect_new ∙ ap (λ (s : Step ℤ). (s then λ n y. tests n y) then λ row y. put row y) e

    module _ (n : ℤ) (is : fixed b.name rows new.rowid x ≡ Done n x) where
      effect_fixed : row_effect env b source x ≡ (tests n x then λ row y. put row y)
      effect_fixed = effect_new ∙ ap (λ (s : Step ℤ). (s then λ n y. tests n y) then λ row y. put row y) is

      abbrev by_null : Bool → Effect
      by_null t =
          (unless_broken t (Constraint constraint.NotNull b.name) x then λ u y. behind_nulls n y) then λ row y. put row y

      pub effect_null : lacks_value b.columns (row_with n).values ≡ true → row_effect env b source x ≡ Fails (only (Constraint constraint.NotNull b.name)) x
      effect_null e = effect_fixed ∙ ap by_null e

      module _ (known : lacks_value b.columns (row_with n).values ≡ false) where
        abbrev by_check : Effect → Effect
        by_check s = (s then λ u y. at_last n y) then λ row y. put row y

        effect_known : row_effect env b source x ≡ by_check (checked b.name b.checks (at_row env (row_with n)) x)
        effect_known = effect_fixed ∙ ap by_null known

        check_is : (o : Option CauseSet) → first_broken b.name b.checks (at_row env (row_with n)) ≡ o → row_effect env b source x ≡ by_check (effect_by o x)
        check_is o e =
            effect_known ∙ ap by_check (checked-is b.name b.checks (at_row env (row_with n)) x) ∙ ap (λ o. by_check (effect_by o x)) e

        pub effect_broken : (causes : CauseSet) → first_broken b.name b.checks (at_row env (row_with n)) ≡ Some causes → row_effect env b source x ≡ Fails causes x
        effect_broken causes e = check_is (Some causes) e

        module _ (passes : first_broken b.name b.checks (at_row env (row_with n)) ≡ None) where
          abbrev by_met : Bool → Effect
          by_met t =
              (unless_broken t (Constraint constraint.Unique b.name) x then λ u y. Done (row_stored n) y) then λ row y. put row y

          pub effect_met : is_met b.keys rows (row_stored n) ≡ true → row_effect env b source x ≡ Fails (only (Constraint constraint.Unique b.name)) x
          effect_met e = check_is None passes ∙ ap by_met e

          pub effect_free : is_met b.keys rows (row_stored n) ≡ false → row_effect env b source x ≡ done (with_row x b.table (row_stored n))
          effect_free e = check_is None passes ∙ ap by_met e

-- ---- a new row

-- what is stored beside the columns is what a column of its own stores
pub beside-is : (env : Environment) (from : RowidFrom) (source : List Value) → rowid_beside from source ≡ stored_for env (columns_beside from) source
beside-is env rowid.Drawn source = refl
beside-is env (rowid.Given place) source = refl
beside-is env (rowid.Column place) source = refl

pub beside-long : (from : RowidFrom) (source : List Value) → length (rowid_beside from source) ≡ length (columns_beside from)
beside-long rowid.Drawn source = refl
beside-long (rowid.Given place) source = refl
beside-long (rowid.Column place) source = refl

module _ (from : RowidFrom) (outs beside : List Out) where
  abbrev values : List Value
  values = map good_or_null outs

  abbrev values_beside : List Value
  values_beside = map good_or_null beside

  abbrev all : Out
  all = fold with_causes no_causes (outs ++ beside)

  abbrev pub new_of : NewRow
  new_of = record { rowid = given_rowid from values_beside values; values = values }

  pub new-good : is_bad all ≡ false → new_by from outs beside all ≡ Ok new_of
  new-good e = ap (new_by from outs beside) (calm-good (outs ++ beside) e).0

  pub new-bad : (o : Out) → is_bad o ≡ true → (k : CauseSet) × (o ≡ Bad k) × (new_by from outs beside o ≡ Err k)
  new-bad (Good v) e = absurd (cc)
  new-bad (Bad k) e = (k, refl, refl)

-- ---- where the rowid stands

-- nothing is given, or it stands among what is stored; the column that is the rowid then holds it
pub data Stands (from : RowidFrom) (values beside : List Value) : Option ℕ → Type 0 where
  Missing : given_rowid from beside values ≡ value.Null → ((n : ℤ) → with_column (rowid_column from) (value.Integer n) values ≡ values) → Stands from values beside None
  Beside : (k : ℕ) → k ≡ length values → k < length values + length beside → given_rowid from beside values ≡ slice_index_or (values ++ beside) k value.Null → ((n : ℤ) → with_column (rowid_column from) (value.Integer n) values ≡ values) → Stands from values beside (Some k)
  Within : (k : ℕ) → k < length values → given_rowid from beside values ≡ slice_index_or (values ++ beside) k value.Null → ((n : ℤ) → with_column (rowid_column from) (value.Integer n) values ≡ slice_set values k (value.Integer n)) → Stands from values beside (Some k)

pub stands : (from : RowidFrom) (values beside : List Value) (width : ℕ) → width ≡ length values → length beside ≡ length (columns_beside from) → Stands from values beside (rowid_given from width)
stands rowid.Drawn values beside width wide long = Missing refl (λ n. refl)
stands (rowid.Given place) values [] width wide long = absurd (omega arith)
stands (rowid.Given place) values (v ∷ beside) width wide long = Beside width wide (omega arith) (sym (ap (λ k. slice_index_or (values ++ v ∷ beside) k value.Null) wide ∙ get_or-append_seam values v beside value.Null)) (λ n. refl)
stands (rowid.Column place) values beside width wide long = by (nat_lt place width) refl
  where
    by : (b : Bool) → nat_lt place width ≡ b → Stands (rowid.Column place) values beside (if b then Some place else None)
    by true e = let lt : place < width = ltb-true place width e in Within place (omega arith) (sym (get_or_append_left values beside value.Null place (omega arith))) (λ n. refl)
    by false e = let le : width ≤ place = ltb-false place width e in Missing (get_or_past values place value.Null (omega arith)) (λ n. set_past values place (value.Integer n) (omega arith))

-- what is stored of a row: all of it, or NULL in place of its rowid that stands among the columns
pub data Storing (from : RowidFrom) (width : ℕ) (o : Option ℕ) : Bool → Type 0 where
  Apart : ((v : Value) (values : List Value) → length values ≡ width → with_column (rowid_column from) v values ≡ values) → Storing from width o false
  Once : (k : ℕ) → k < width → o ≡ Some k → rowid_column from ≡ Some k → Storing from width o true

pub storing : (from : RowidFrom) (width : ℕ) → Storing from width (rowid_given from width) (is_within from width)
storing rowid.Drawn width = Apart (λ v values wide. refl)
storing (rowid.Given place) width = Apart (λ v values wide. refl)
storing (rowid.Column place) width = by (nat_lt place width) refl
  where
    by : (b : Bool) → nat_lt place width ≡ b → Storing (rowid.Column place) width (if b then Some place else None) b
    by true e = Once place (ltb-true place width e) refl refl
    by false e = let le : width ≤ place = ltb-false place width e in Apart (λ v values wide. set_past values place v (omega (arith, le, wide)))
