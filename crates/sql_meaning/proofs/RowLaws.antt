-- The tests of a row change nothing, and a row that passes them comes into its table.
use Rattle.std.proofs.Common.{◌≡◌, ◌⊎◌, inl, inr, ℕ, List, Bool, true, false, Option, Some, None, Result, Ok, Err, ℤ, if◌then◌else◌, All, refl, sym, ap, subst, ◌∙◌, [], ◌∷◌}
use Rattle.std.proofs.lemmas.List.Elements.{All-cons, All-nil}
use Rattle.std.specs.List.{AllZip}
use Rattle.eng_number.specs.Numbers.{fits_integer}
use Rattle.eng_value.specs.Causes.{CauseSet, only}
use Rattle.eng_value.specs.Environments.{Environment}
use Rattle.eng_value.specs.StoredRows.{StoredRow, next_rowid}
use Rattle.eng_value.specs.Truths.{truth_in, truth_of}
use Rattle.eng_value.specs.Written.{Written}
use Rattle.eng_value.specs.declared.cause.Cause.{Cause}
use Rattle.eng_value.specs.declared.cause.Cause.TheVariants as cause
use Rattle.eng_value.specs.declared.cause.ConstraintKind.TheVariants as constraint
use Rattle.eng_value.specs.declared.truth.Truth.{Truth}
use Rattle.eng_value.specs.declared.truth.Truth.TheVariants as truth
use Rattle.eng_value.specs.declared.value.Value.{Value}
use Rattle.eng_value.specs.declared.value.Value.TheVariants as value
use Rattle.bound_tree.specs.Exprs.{BoundExpr}
use Rattle.eng_index.specs.Keys.{standing}
use Rattle.sql_meaning.specs.declared.bound.BoundInsert.{BoundInsert}
use Rattle.sql_meaning.specs.declared.bound.RowidFrom.TheVariants as rowid
use Rattle.sql_meaning.specs.declared.column.TableEntry.{TableEntry}
use Rattle.sql_meaning.specs.Effects.{IsFitting, KeepsWritten, Passes}
use Rattle.sql_meaning.specs.Expression.{value_of}
use Rattle.sql_meaning.specs.Rows.{NewRow, at_row, checked, drawn, fitted, fixed, is_met, lacks_value, new_row, passed, row_changed, row_put, rowid_column, unless_broken, with_row}
use Rattle.sql_meaning.specs.Steps.{Step, Done, Left, Fails, ◌then◌, done, settled}
use Rattle.sql_meaning.specs.Valid.{AreRowsOf, IsHeldBy}
use Rattle.sql_meaning.specs.World.{rows_at, seen, stored}
use Rattle.sql_meaning.proofs.PlaceLaws.{none-met}
use Rattle.sql_meaning.proofs.StepLaws.{Gives, anyhow, gives-weaker, gives-then, never}
use Rattle.sql_meaning.proofs.StoringLaws.{IsInto, IsNew, new-at, new-held, new_row-is, next-drawn, seen-stored}

-- ---- the tests

-- a rowid that is fixed is drawn, or it is an integer of 64 bits that was given
abbrev pub IsFixed : List StoredRow → Value → ℤ → Type 0
IsFixed rows v n = ((v ≡ value.Null) × (next_rowid rows ≡ Some n)) ⊎ ((v ≡ value.Integer n) × (fits_integer n ≡ true))

-- a row passes a CHECK
abbrev pub PassesCheck : Environment → StoredRow → BoundExpr → Type 0
PassesCheck env r c = Passes (truth_in (truth_of (value_of c (at_row env r))))

-- a row with its rowid, as it is seen, and as it is stored
abbrev pub with_rowid : BoundInsert → NewRow → ℤ → StoredRow
with_rowid b new n = seen (rowid_column b.rowid) (record { rowid = n; values = new.values })

abbrev pub kept : BoundInsert → StoredRow → StoredRow
kept b r = stored (rowid_column b.rowid) r

-- a row that is fitted among those of its table
pub record IsFitted (env : Environment) (b : BoundInsert) (rows : List StoredRow) (new : NewRow) (r : StoredRow) : Type 0 where
  pub fixed : IsFixed rows new.rowid r.rowid
  pub is : r ≡ kept b (with_rowid b new r.rowid)
  pub free : is_met b.keys rows r ≡ false
  pub not_null : lacks_value b.columns (with_rowid b new r.rowid).values ≡ false
  pub checks : All (PassesCheck env (with_rowid b new r.rowid)) b.checks

-- its tests behind that of its rowid
abbrev pub placed : BoundInsert → List StoredRow → StoredRow → Written → Step StoredRow
placed b rows r x = unless_broken (is_met b.keys rows (kept b r)) (cause.Constraint constraint.Unique b.name) x then λ u x. Done (kept b r) x

abbrev pub tested : Environment → BoundInsert → List StoredRow → StoredRow → Written → Step StoredRow
tested env b rows r x =
    unless_broken (lacks_value b.columns r.values) (cause.Constraint constraint.NotNull b.name) x then λ u x.
    checked b.name b.checks (at_row env r) x then λ u x.
    placed b rows r x

module _ (x : Written) where
  -- nothing is written
  abbrev pub Same : Written → Type 0
  Same y = y ≡ x

  abbrev pub fails : CauseSet → Written → Type 0
  fails causes y = y ≡ x

  drawn-gives : (table : List ℕ) (rows : List StoredRow) (o : Option ℤ) → next_rowid rows ≡ o → Gives (λ n y. Same y × IsFixed rows value.Null n) never fails (drawn table o x)
  drawn-gives table rows None is = refl
  drawn-gives table rows (Some n) is = (refl, inl (refl, is))

  fixed-gives : (table : List ℕ) (rows : List StoredRow) (v : Value) → Gives (λ n y. Same y × IsFixed rows v n) never fails (fixed table rows v x)
  fixed-gives table rows value.Null = drawn-gives table rows (next_rowid rows) refl
  fixed-gives table rows (value.Integer n) = by (fits_integer n) refl
    where
      by : (b : Bool) → fits_integer n ≡ b → Gives (λ m y. Same y × IsFixed rows (value.Integer n) m) never fails (if b then Done n x else Fails (only cause.Mismatch) x)
      by true fits = (refl, inr (refl, fits))
      by false fits = refl
  fixed-gives table rows (value.Text text) = refl
  fixed-gives table rows (value.Blob bytes) = refl

  unless_broken-gives : (b : Bool) (why : Cause) (y : Written) → Same y → Gives (λ u z. Same z × (b ≡ false)) never fails (unless_broken b why y)
  unless_broken-gives false why y same = (same, refl)
  unless_broken-gives true why y same = same

  passed-gives : (table : List ℕ) (t : Truth) (y : Written) → Same y → Gives (λ u z. Same z × Passes t) never fails (passed table t y)
  passed-gives table truth.True y same = (same, tt)
  passed-gives table truth.False y same = same
  passed-gives table truth.Unknown y same = (same, tt)
  passed-gives table (truth.Failed causes) y same = same

  checked-gives : (table : List ℕ) (checks : List BoundExpr) (env : Environment) (r : StoredRow) (y : Written) → Same y
      → Gives (λ u z. Same z × All (PassesCheck env r) checks) never fails (checked table checks (at_row env r) y)
  checked-gives table [] env r y same = (same, All-nil (PassesCheck env r))
  checked-gives table (c ∷ checks) env r y same =
      let t = truth_in (truth_of (value_of c (at_row env r))) in
      gives-then never fails (λ u z. Same z × Passes t) (λ u z. Same z × All (PassesCheck env r) (c ∷ checks)) (passed table t y) (λ u z. checked table checks (at_row env r) z)
      (passed-gives table t y same)
      (λ u z one. gives-weaker (λ v w. Same w × All (PassesCheck env r) checks) (λ v w. Same w × All (PassesCheck env r) (c ∷ checks)) never fails fails (checked table checks (at_row env r) z)
      (λ v w rest. (rest.0, All-cons (PassesCheck env r) c checks one.1 rest.1)) (λ causes w h. h) (checked-gives table checks env r z one.0))

  abbrev Free : BoundInsert → List StoredRow → StoredRow → StoredRow → Written → Type 0
  Free b rows r s y = Same y × (s ≡ kept b r) × (is_met b.keys rows (kept b r) ≡ false)

  placed-gives : (b : BoundInsert) (rows : List StoredRow) (r : StoredRow) (y : Written) → Same y → Gives (Free b rows r) never fails (placed b rows r y)
  placed-gives b rows r y same =
      let taken = is_met b.keys rows (kept b r) in
      gives-then never fails (λ u z. Same z × (taken ≡ false)) (Free b rows r) (unless_broken taken (cause.Constraint constraint.Unique b.name) y) (λ u z. Done (kept b r) z)
      (unless_broken-gives taken (cause.Constraint constraint.Unique b.name) y same) (λ u z free. (free.0, refl, free.1))

  -- behind the test for NULLs
  abbrev Checked : Environment → BoundInsert → List StoredRow → StoredRow → StoredRow → Written → Type 0
  Checked env b rows r s y = Free b rows r s y × All (PassesCheck env r) b.checks

  checks-give : (env : Environment) (b : BoundInsert) (rows : List StoredRow) (r : StoredRow) (y : Written) → Same y
      → Gives (Checked env b rows r) never fails (checked b.name b.checks (at_row env r) y then λ u z. placed b rows r z)
  checks-give env b rows r y same =
      gives-then never fails (λ u z. Same z × All (PassesCheck env r) b.checks) (Checked env b rows r) (checked b.name b.checks (at_row env r) y) (λ u z. placed b rows r z)
      (checked-gives b.name b.checks env r y same)
      (λ u z passed. gives-weaker (Free b rows r) (Checked env b rows r) never fails fails (placed b rows r z) (λ s w free. (free, passed.1)) (λ causes w h. h) (placed-gives b rows r z passed.0))

  abbrev Tested : Environment → BoundInsert → List StoredRow → StoredRow → StoredRow → Written → Type 0
  Tested env b rows r s y = Checked env b rows r s y × (lacks_value b.columns r.values ≡ false)

  tested-gives : (env : Environment) (b : BoundInsert) (rows : List StoredRow) (r : StoredRow) (y : Written) → Same y → Gives (Tested env b rows r) never fails (tested env b rows r y)
  tested-gives env b rows r y same =
      let lacks = lacks_value b.columns r.values in
      let behind : Unit {0} → Written → Step StoredRow = λ u z. checked b.name b.checks (at_row env r) z then λ v w. placed b rows r w in
      gives-then never fails (λ u z. Same z × (lacks ≡ false)) (Tested env b rows r) (unless_broken lacks (cause.Constraint constraint.NotNull b.name) y) behind
      (unless_broken-gives lacks (cause.Constraint constraint.NotNull b.name) y same)
      (λ u z kept. gives-weaker (Checked env b rows r) (Tested env b rows r) never fails fails (behind u z) (λ s w held. (held, kept.1)) (λ causes w h. h) (checks-give env b rows r z kept.0))

  pub fitted-gives : (env : Environment) (b : BoundInsert) (rows : List StoredRow) (new : NewRow) → Gives (λ r y. Same y × IsFitted env b rows new r) never fails (fitted env b rows new x)
  fitted-gives env b rows new =
      gives-then never fails (λ n y. Same y × IsFixed rows new.rowid n) (λ r y. Same y × IsFitted env b rows new r) (fixed b.name rows new.rowid x) (λ n y. tested env b rows (with_rowid b new n) y)
      (fixed-gives b.name rows new.rowid)
      (λ n y one. gives-weaker (Tested env b rows (with_rowid b new n)) (λ r z. Same z × IsFitted env b rows new r) never fails fails (tested env b rows (with_rowid b new n) y)
      (λ r z held. (held.0.0.0, subst (IsFitted env b rows new) (sym held.0.0.1) (record { fixed = one.1; is = refl; free = held.0.0.2; not_null = held.1; checks = held.0.1 })))
      (λ causes z same. same) (tested-gives env b rows (with_rowid b new n) y one.0))

  keeps : {A : Type 0} (made : A → Type 0) (s : Step A) → Gives (λ a y. Same y × made a) never fails s → KeepsWritten x s
  keeps made (Done a y) g = g.0
  keeps made (Left y) g = absurd g
  keeps made (Fails causes y) g = g

-- whatever fixing a rowid and testing a row come to, what is written is as it was
pub fitted-keeps : (env : Environment) (b : BoundInsert) (rows : List StoredRow) (new : NewRow) (x : Written) → KeepsWritten x (fitted env b rows new x)
fitted-keeps env b rows new x = keeps x (IsFitted env b rows new) (fitted env b rows new x) (fitted-gives x env b rows new)

fitted-is : (env : Environment) (b : BoundInsert) (rows : List StoredRow) (new : NewRow) (x y : Written) (r : StoredRow) → fitted env b rows new x ≡ Done r y → IsFitted env b rows new r
fitted-is env b rows new x y r e = (subst (Gives (λ s z. (z ≡ x) × IsFitted env b rows new s) never (fails x)) e (fitted-gives x env b rows new)).1

-- ---- a row that is put

-- no row was in its way; its rowid is drawn where none is given; its values are as the columns of the table store them
pub record PutsRow (t : TableEntry) (env : Environment) (b : BoundInsert) (x y : Written) : Type 0 where
  pub row : StoredRow
  pub put : y ≡ with_row x b.table row
  pub free : standing b.keys (rows_at x.world b.table) row ≡ []
  pub fits : fits_integer row.rowid ≡ true
  pub fitting : IsFitting env b row
  pub next : b.rowid ≡ rowid.Drawn → next_rowid (rows_at x.world b.table) ≡ Some row.rowid
  pub held : AllZip IsHeldBy t.columns row.values

fixed-next : (rows : List StoredRow) (v : Value) (n : ℤ) → IsFixed rows v n → v ≡ value.Null → next_rowid rows ≡ Some n
fixed-next rows v n (inl drawn) null = drawn.1
fixed-next rows v n (inr given) null = absurd (let bad : value.Integer n ≡ value.Null = sym given.0 ∙ null in cc)

fixed-given : (rows : List StoredRow) (v : Value) (n m : ℤ) → IsFixed rows v n → v ≡ value.Integer m → n ≡ m
fixed-given rows v n m (inl drawn) given = absurd (let bad : value.Null ≡ value.Integer m = sym drawn.0 ∙ given in cc)
fixed-given rows v n m (inr is) given = let same : value.Integer n ≡ value.Integer m = sym is.0 ∙ given in cc

fixed-fits : (t : TableEntry) (rows : List StoredRow) (v : Value) (n : ℤ) → AreRowsOf t rows → IsFixed rows v n → fits_integer n ≡ true
fixed-fits t rows v n valid (inl drawn) = (next-drawn t rows n valid drawn.1).fits
fixed-fits t rows v n valid (inr given) = given.1

-- a rowid for which nothing is given is drawn, and one that is given is kept
pub rowid-drawn : (t : TableEntry) (env : Environment) (b : BoundInsert) (rows : List StoredRow) (new : NewRow) (x y : Written) (r : StoredRow) → AreRowsOf t rows → new.rowid ≡ value.Null → fitted env b rows new x ≡ Done r y → next_rowid rows ≡ Some r.rowid
rowid-drawn t env b rows new x y r valid null e = fixed-next rows new.rowid r.rowid (fitted-is env b rows new x y r e).fixed null

pub rowid-given : (env : Environment) (b : BoundInsert) (rows : List StoredRow) (new : NewRow) (x y : Written) (r : StoredRow) (n : ℤ) → new.rowid ≡ value.Integer n → fitted env b rows new x ≡ Done r y → r.rowid ≡ n
rowid-given env b rows new x y r n given e = fixed-given rows new.rowid r.rowid n (fitted-is env b rows new x y r e).fixed given

fitted-puts : (t : TableEntry) (env : Environment) (b : BoundInsert) (new : NewRow) (x : Written) (r : StoredRow) → IsInto t b → IsNew b new → AreRowsOf t (rows_at x.world b.table) → IsFitted env b (rows_at x.world b.table) new r
    → PutsRow t env b x (with_row x b.table r)
fitted-puts t env b new x r into is valid fitted = record {
  row = r;
  put = refl;
  free = none-met b.keys (rows_at x.world b.table) r fitted.free;
  fits = fixed-fits t (rows_at x.world b.table) new.rowid r.rowid valid fitted.fixed;
  fitting = record {
    not_null = subst (λ (s : StoredRow). lacks_value b.columns s.values ≡ false) (sym at) fitted.not_null;
    checks = subst (λ (s : StoredRow). All (PassesCheck env s) b.checks) (sym at) fitted.checks;
    rowid = new-at t b new r into is fitted.is;
  };
  next = λ drawn. fixed-next (rows_at x.world b.table) new.rowid r.rowid fitted.fixed (is.drawn drawn);
  held = subst (λ (s : StoredRow). AllZip IsHeldBy t.columns s.values) (sym fitted.is) (new-held t b new r.rowid into is);
}
  where
    at : seen (rowid_column b.rowid) r ≡ with_rowid b new r.rowid
    at = ap (seen (rowid_column b.rowid)) fitted.is ∙ seen-stored (rowid_column b.rowid) (record { rowid = r.rowid; values = new.values })

abbrev Puts : TableEntry → Environment → BoundInsert → Written → Unit {0} → Written → Type 0
Puts t env b x u y = PutsRow t env b x y

changed-gives : (t : TableEntry) (env : Environment) (b : BoundInsert) (new : NewRow) (x : Written) → IsInto t b → IsNew b new → AreRowsOf t (rows_at x.world b.table) → Gives (Puts t env b x) never anyhow (row_changed env b new x)
changed-gives t env b new x into is valid =
    let rows = rows_at x.world b.table in
    gives-then never anyhow (λ r y. (y ≡ x) × IsFitted env b rows new r) (Puts t env b x) (fitted env b rows new x) (λ r y. done (with_row y b.table r))
    (gives-weaker (λ r y. (y ≡ x) × IsFitted env b rows new r) (λ r y. (y ≡ x) × IsFitted env b rows new r) never (fails x) anyhow (fitted env b rows new x) (λ r y held. held) (λ causes y same. tt) (fitted-gives x env b rows new))
    (λ r y held. subst (λ z. PutsRow t env b x (with_row z b.table r)) (sym held.0) (fitted-puts t env b new x r into is valid held.1))

new-gives : (env : Environment) (b : BoundInsert) (source : List Value) (x : Written) (r : Result NewRow CauseSet) → new_row env b source ≡ r → Gives (λ new y. (y ≡ x) × IsNew b new) never anyhow (settled r x)
new-gives env b source x (Ok new) is = (refl, new_row-is env b source new is)
new-gives env b source x (Err causes) is = tt

-- what is put is one row more, and no row is left
pub row_put-gives : (t : TableEntry) (env : Environment) (b : BoundInsert) (source : List Value) (x : Written) → IsInto t b → AreRowsOf t (rows_at x.world b.table) → Gives (λ u y. PutsRow t env b x y) never anyhow (row_put env b source x)
row_put-gives t env b source x into valid =
    gives-then never anyhow (λ new y. (y ≡ x) × IsNew b new) (Puts t env b x) (settled (new_row env b source) x) (λ new y. row_changed env b new y)
    (new-gives env b source x (new_row env b source) refl)
    (λ new y held. subst (λ z. Gives (Puts t env b x) never anyhow (row_changed env b new z)) (sym held.0) (changed-gives t env b new x into held.1 valid))
