-- The code of a row puts it.
use Rattle.std.proofs.Common.{◌≡◌, ◌≢◌, ℕ, zero, suc, ◌+◌, ◌≤◌, ◌<◌, Bool, List, [], ◌∷◌, ◌++◌, true, false, length, map, fold, sum_by, ℤ, pos, Option, Some, None, All, Ok, is_some, if◌then◌else◌, refl, sym, ap, ◌∙◌, subst, arith, inr, ◌⊎◌, ⊎_elim, length-append}
use Rattle.std.specs.List.{flat_map}
use Rattle.std.specs.Prelude.{slice_index_or, slice_set}
use Rattle.std.proofs.Math.ListN.{length-set}
use Rattle.std.proofs.lemmas.List.{length-map, map-append, map-set}
use Rattle.std.proofs.lemmas.List.Sums.{sum_by-append}
use Rattle.eng_index.specs.Keys.{row_in_way}
use Rattle.eng_index.specs.declared.key_term.KeyTerm.{KeyTerm}
use Rattle.eng_number.specs.Numbers.{fits_integer}
use Rattle.eng_value.specs.Causes.{CauseSet, only}
use Rattle.eng_value.specs.Environments.{Environment, no_causes, with_causes}
use Rattle.eng_value.specs.StoredRows.{StoredRow, next_rowid}
use Rattle.eng_value.specs.Written.{Written}
use Rattle.eng_value.specs.declared.cause.Cause.TheVariants.{Constraint, Full, Mismatch}
use Rattle.eng_value.specs.declared.cause.ConstraintKind.TheVariants as constraint
use Rattle.eng_value.specs.declared.out.Out.{Out}
use Rattle.eng_value.specs.declared.out.Out.TheVariants.{Good}
use Rattle.eng_value.specs.declared.value.Value.{Value}
use Rattle.eng_value.specs.declared.value.Value.TheVariants.{Integer, Null, Text, Blob}
use Rattle.bound_tree.specs.Exprs.{BoundExpr}
use Rattle.gen_write.specs.Stretches.{AreHeld, AreKept, ChecksRow, Puts, SameBut, SteadyAt, Stores, first_broken, rowid_register, scene_on, seen_from, stored_rowid, with_met_tested, with_nulls_refused, with_row_stored, with_row_tested, with_rowid_fixed}
use Rattle.gen_write.specs.Writes.{Course, NamesWhatIsThere, checks_steps, column_steps, columns_beside, course_of, default_needs, failed, finished, needs_of_each, insert_steps, is_within, may_be_met, met_steps, null_steps, row_effect, row_put, row_steps, rowid_given, rowid_steps}
use Rattle.gen_write.specs.declared.source.Kept.{Kept}
use Rattle.gen_write.proofs.Causing.{calm-good}
use Rattle.gen_write.proofs.Checking.{checks_row_next, first_broken-same, t_passes}
use Rattle.gen_write.proofs.Columns.{stored-append, stored-long, t_stores}
use Rattle.gen_write.proofs.Fitting.{Stands, Missing, Beside, Within, Storing, Apart, Once, beside-is, beside-long, effect_bad, effect_broken, effect_free, effect_met, effect_null, effect_unfixed, new-bad, new-good, new_of, stands, storing}
use Rattle.gen_write.proofs.Fresh.{next_rowid-free}
use Rattle.gen_write.proofs.Needing.{met_checks, met_defaults}
use Rattle.gen_write.proofs.Opens.{at_none, at_of, at_standing, at_then, table_open}
use Rattle.gen_write.proofs.Refusals.{grows_refused, steady_refused, t_refused}
use Rattle.gen_write.proofs.RowRuns.{HasFailed, HasRun, IsSetAt, puts_of}
use Rattle.gen_write.proofs.Testing.{grows_met, grows_nulls, grows_tested, on_table, same_nulls, steady_met, steady_nulls, steady_tested, t_draws, t_met, t_nulls, t_tested}
use Rattle.gen_write.proofs.Views.{scene_at, sees-none, sees-row, stored-same}
use Rattle.sql_meaning.specs.Rows.{NewRow, at_row, drawn, fixed, given_rowid, good_or_null, lacks_value, new_row, rowid_beside, rowid_column, stored_for}
use Rattle.sql_meaning.specs.World.{seen, stored as stored_of, with_column}
use Rattle.sql_meaning.specs.Steps.{Step, Done, Fails}
use Rattle.sql_meaning.specs.declared.bound.BoundInsert.{BoundInsert}
use Rattle.sql_meaning.specs.declared.bound.PutColumn.{PutColumn}
use Rattle.sql_meaning.specs.declared.bound.RowidFrom.{RowidFrom}
use Rattle.sql_meaning.specs.declared.bound.RowidFrom.TheVariants as rowid
use Rattle.vm_code.specs.declared.op.Op.TheVariants as op
use Rattle.vm_code.specs.Draft.{Draft, with_op, taken, released}
use Rattle.vm_code.specs.declared.open_cursor.Need.TheVariants as need
use Rattle.vm_code.specs.Track.{Meets}
use Rattle.vm_code.specs.Tracked.{Steady}
use Rattle.vm_code.specs.Machine as machine
use Rattle.vm_code.specs.Machine.{World, Closed, IsSound, Open, Setting, Shared, State, GivesUp, cursor_at, inserted, integer_in, integer_of, is_bad, is_integer, leaving_of, outs_from, read, row_in, rows_of, standing_on, values_from, with_row, world_of}
use Rattle.vm_code.specs.Frames.{Given, Grows, Here, environment_of, here, needing, with_regs}
use Rattle.vm_code.specs.Claims.{Claim, Labels, Last, Triple}
use Rattle.vm_code.proofs.Drafts.{g_op, g_released, g_taken, grows_none, grows_then}
use Rattle.vm_code.proofs.Kept.{ordered_rows}
use Rattle.vm_code.proofs.Loops.{moved, t_move}
use Rattle.vm_code.proofs.NewRows.{t_row_of, unmet_without_keys}
use Rattle.vm_code.proofs.Meeting.{met_one}
use Rattle.vm_code.proofs.Tracks.{st_none, st_op, st_released, st_taken, st_then, st_use}
use Rattle.vm_code.proofs.Registers.{outs_same, values_outs}
use Rattle.vm_code.proofs.Triples.{no_labels, t_seq, t_use, t_more, t_draft, t_op}
use Rattle.vm_code.proofs.Effects.{But, but_none, but_regs, t_put}

-- ---- registers

-- the first of them
outs_prefix : (r : List Out) (first : ℕ) (xs ys : List Out) → outs_from r first (length (xs ++ ys)) ≡ xs ++ ys → outs_from r first (length xs) ≡ xs
outs_prefix r first [] ys e = refl
outs_prefix r first (x ∷ xs) ys e =
    let all : read r first ∷ outs_from r (first + 1) (length (xs ++ ys)) ≡ x ∷ (xs ++ ys) = e in
    let head : read r first ≡ x = cc in
    let tail : outs_from r (first + 1) (length (xs ++ ys)) ≡ xs ++ ys = cc in
    ap (λ o. o ∷ outs_from r (first + 1) (length xs)) head
    ∙ ap (λ l. x ∷ l) (outs_prefix r (first + 1) xs ys tail)

-- one of them
outs_read : (r : List Out) (first : ℕ) (xs : List Out) (k : ℕ) (d : Out) → outs_from r first (length xs) ≡ xs → k < length xs → read r (first + k) ≡ slice_index_or xs k d
outs_read r first [] k d e lt = absurd (omega (arith, lt))
outs_read r first (x ∷ xs) zero d e lt =
    let all : read r first ∷ outs_from r (first + 1) (length xs) ≡ x ∷ xs = e in
    let place : first + 0 ≡ first = omega arith in
    ap (read r) place ∙ cc
outs_read r first (x ∷ xs) (suc k) d e lt =
    let all : read r first ∷ outs_from r (first + 1) (length xs) ≡ x ∷ xs = e in
    let tail : outs_from r (first + 1) (length xs) ≡ xs = cc in
    let place : first + suc k ≡ first + 1 + k = omega arith in
    ap (read r) place ∙ outs_read r (first + 1) xs k d tail (omega arith)

-- of which one is another
outs_set : (r q : List Out) (n first i : ℕ) (v : Out) → read q (first + i) ≡ v → ((k : ℕ) → k ≢ first + i → read q k ≡ read r k) → outs_from q first n ≡ slice_set (outs_from r first n) i v
outs_set r q zero first i v is same = refl
outs_set r q (suc n) first zero v is same =
    let place : first ≡ first + 0 = omega arith in
    ap (λ o. o ∷ outs_from q (first + 1) n) (ap (read q) place ∙ is)
    ∙ ap (λ l. v ∷ l) (outs_same q r n (first + 1) (λ k le lt. same k (omega (arith, le))))
outs_set r q (suc n) first (suc i) v is same =
    let place : first + 1 + i ≡ first + suc i = omega arith in
    ap (λ o. o ∷ outs_from q (first + 1) n) (same first (omega arith))
    ∙ ap (λ l. read r first ∷ l) (outs_set r q n (first + 1) i v (ap (read q) place ∙ is) (λ k ne. same k (λ e. ne (e ∙ sym place))))

-- the machine's word for what a register counts as in a row is the definitions'
good_or_null-same : (values : List Value) → map machine.good_or_null (map Good values) ≡ values
good_or_null-same [] = refl
good_or_null-same (v ∷ values) = ap (λ l. v ∷ l) (good_or_null-same values)

read-good : (values : List Value) (k : ℕ) → slice_index_or (map Good values) k (Good Null) ≡ Good (slice_index_or values k Null)
read-good [] k = refl
read-good (v ∷ values) zero = refl
read-good (v ∷ values) (suc k) = read-good values k

good-is : {v w : Value} → Good v ≡ Good w → v ≡ w
good-is e = cc

-- a family of stretches over what is claimed of some number
t_some : {m : Setting} {a b : Draft} {n : Here → ℕ} {g : Labels} {e : Last} {q : Claim} (p : ℤ → Claim) → ((k : ℤ) → Triple m a b n g e (p k) q) → Triple m a b n g e (λ h0 h. (k : ℤ) × p k h0 h) q
t_some p x = record { extends = (x (pos 0)).extends; runs = λ u at h h0 s room start pre. (x pre.0).runs u at h h0 s room start pre.1 }

-- ---- a rowid that is fixed

null-is : (v : Value) → machine.is_null (Good v) ≡ true → v ≡ Null
null-is Null e = refl
null-is (Integer n) e = absurd (cc)
null-is (Text t) e = absurd (cc)
null-is (Blob t) e = absurd (cc)

fixed-drawn : (name : List ℕ) (rows : List StoredRow) (v : Value) (x : Written) (o : Option ℤ) → v ≡ Null → next_rowid rows ≡ o → fixed name rows v x ≡ drawn name o x
fixed-drawn name rows v x o is next = ap (λ v. fixed name rows v x) is ∙ ap (λ o. drawn name o x) next

fixed-given : (name : List ℕ) (rows : List StoredRow) (v : Value) (x : Written) (n : ℤ) → v ≡ Integer n → fits_integer n ≡ true → fixed name rows v x ≡ Done n x
fixed-given name rows v x n is fits =
    ap (λ v. fixed name rows v x) is ∙ ap (λ b. if b then Done n x else Fails (only Mismatch) x) fits

fixed-wrong : (name : List ℕ) (rows : List StoredRow) (v : Value) (x : Written) → machine.is_null (Good v) ≡ false → is_integer (Good v) ≡ false → fixed name rows v x ≡ Fails (only Mismatch) x
fixed-wrong name rows Null x e f = absurd (cc)
fixed-wrong name rows (Integer n) x e f = ap (λ b. if b then Done n x else Fails (only Mismatch) x) f
fixed-wrong name rows (Text t) x e f = refl
fixed-wrong name rows (Blob t) x e f = refl

drawn-some : (name : List ℕ) (o : Option ℤ) (x : Written) (n : ℤ) → drawn name o x ≡ Done n x → o ≡ Some n
drawn-some name None x n e = absurd (cc)
drawn-some name (Some k) x n e = ap (λ s. by s) e
  where
    by : Step ℤ → Option ℤ
    by (Done k y) = Some k
    by other = None

-- how many instructions it takes to make a row what is stored
abbrev apart_steps : Bool → ℕ
apart_steps false = 0
apart_steps true = 2

steps-put : (b : Bool) → apart_steps b + 1 ≡ insert_steps b
steps-put false = refl
steps-put true = refl

with_column-long : (column : Option ℕ) (v : Value) (values : List Value) → length (with_column column v values) ≡ length values
with_column-long None v values = refl
with_column-long (Some place) v values = length-set values place v

stands-within : {from : RowidFrom} {values beside : List Value} {k : ℕ} → Stands from values beside (Some k) → k < length values + length beside
stands-within (Beside k is lt e same) = lt
stands-within (Within k lt e same) = omega (arith, lt)

stands-is : {from : RowidFrom} {values beside : List Value} {k : ℕ} → Stands from values beside (Some k) → given_rowid from beside values ≡ slice_index_or (values ++ beside) k Null
stands-is (Beside k is lt e same) = e
stands-is (Within k lt e same) = e

-- ---- the code

module _ (a y c : Draft) (may : Bool) (o : Option ℕ) (within : Bool) (causes : ℕ) (insert : BoundInsert) (row : List Kept) (below : causes < a.next) (cursors_are : a.cursors ≡ 2) where
  abbrev first : ℕ
  first = a.next

  abbrev width : ℕ
  width = length insert.columns

  abbrev table : ℕ
  table = insert.table

  abbrev name : List ℕ
  name = insert.name

  abbrev all_columns : List PutColumn
  all_columns = insert.columns ++ columns_beside insert.rowid

  abbrev refused : Draft
  refused = with_row_tested may y causes

  abbrev fixing : Draft
  fixing = with_rowid_fixed o refused first name

  abbrev rid : ℕ
  rid = rowid_register o first refused.next

  abbrev nulling : Draft
  nulling = with_nulls_refused fixing insert.columns name first causes

  -- where the rowid stands among the columns
  abbrev copying : Draft
  copying = with_op (taken c) (op.Copy rid c.next)

  -- the row as it is stored
  abbrev readying : Draft
  readying = with_row_stored within c rid

  abbrev kept_rid : ℕ
  kept_rid = stored_rowid within rid c.next

  abbrev meeting : Draft
  meeting = with_met_tested (may_be_met o insert.keys) readying name insert.keys kept_rid first width causes

  abbrev putting : Draft
  putting = with_op meeting (op.Insert 1 kept_rid first width)

  abbrev pub row_code : Draft
  row_code = released putting first

  -- what the CHECKs need of cursors
  abbrev checking : Given
  checking = needing (needs_of_each insert.checks)

  module _ (sy : Stores (needing (flat_map default_needs insert.columns)) a y causes row all_columns) (held : may ≡ false → AreHeld row all_columns) (checks : ChecksRow checking nulling c name insert.checks rid first width) (placed : (values beside : List Value) → width ≡ length values → length beside ≡ length (columns_beside insert.rowid) → Stands insert.rowid values beside o) (keeping : Storing insert.rowid width o within) where
    -- ---- how drafts grow

    used : All (Meets table_open) on_table
    used = met_one table_open (need.Table 1) (0, omega arith, refl)

    grows_refusing : (may : Bool) → Grows y (with_row_tested may y causes)
    grows_refusing true = grows_refused y causes
    grows_refusing false = grows_none y

    steady_refusing : (may : Bool) → Steady on_table [] y (with_row_tested may y causes)
    steady_refusing true = steady_refused y causes on_table
    steady_refusing false = st_none on_table [] y

    next_refusing : (may : Bool) → (with_row_tested may y causes).next ≡ y.next
    next_refusing true = refl
    next_refusing false = refl

    grows_fixing : (o : Option ℕ) → Grows refused (with_rowid_fixed o refused first name)
    grows_fixing None = grows_then (g_taken refused) (g_op (taken refused) (op.NewRowid 1 refused.next name))
    grows_fixing (Some k) = grows_tested refused (first + k) name

    steady_fixing : (o : Option ℕ) → Steady on_table [] refused (with_rowid_fixed o refused first name)
    steady_fixing None =
        st_then (g_taken refused) (st_taken on_table [] refused) (st_use on_table [] (taken refused) (op.NewRowid 1 refused.next name) (need.Table 1) refl refl (0, omega arith, refl))
    steady_fixing (Some k) = steady_tested refused (first + k) name

    next_fixing : (o : Option ℕ) → refused.next ≤ (with_rowid_fixed o refused first name).next
    next_fixing None = omega arith
    next_fixing (Some k) = omega arith

    grows_readying : (b : Bool) → Grows c (with_row_stored b c rid)
    grows_readying false = grows_none c
    grows_readying true =
        grows_then (g_taken c) (grows_then (g_op (taken c) (op.Copy rid c.next)) (g_op copying (op.Null rid)))

    steady_readying : (b : Bool) → Steady on_table [] c (with_row_stored b c rid)
    steady_readying false = st_none on_table [] c
    steady_readying true =
        st_then (g_taken c) (st_taken on_table [] c) (st_then (g_op (taken c) (op.Copy rid c.next)) (st_op on_table [] (taken c) (op.Copy rid c.next) (refl, refl)) (st_op on_table [] copying (op.Null rid) (refl, refl)))

    grows_meeting : (may : Bool) → Grows readying (with_met_tested may readying name insert.keys kept_rid first width causes)
    grows_meeting true = grows_met readying name insert.keys kept_rid first width causes
    grows_meeting false = grows_none readying

    steady_meeting : (may : Bool) → Steady on_table [] readying (with_met_tested may readying name insert.keys kept_rid first width causes)
    steady_meeting true = steady_met readying name insert.keys kept_rid first width causes
    steady_meeting false = st_none on_table [] readying

    grows_putting : Grows meeting putting
    grows_putting = g_op meeting (op.Insert 1 kept_rid first width)

    steady_putting : Steady on_table [] meeting putting
    steady_putting =
        st_use on_table [] meeting (op.Insert 1 kept_rid first width) (need.Table 1) refl refl (0, omega arith, refl)

    grows_checking : (l : List BoundExpr) → ChecksRow checking nulling c name l rid first width → Grows nulling c
    grows_checking [] e = subst (Grows nulling) (sym e) (grows_none nulling)
    grows_checking (k ∷ ks) x =
        subst (Grows nulling) (sym x.is) (grows_then (g_op nulling (op.RowOf 0 rid first width)) (grows_then x.checked.grows (g_op x.last (op.Close 0))))

    steady_checking : NamesWhatIsThere insert → (l : List BoundExpr) → ChecksRow checking nulling c name l rid first width → SteadyAt table_open nulling c
    steady_checking fits [] e = subst (SteadyAt table_open nulling) (sym e) (at_none table_open nulling)
    steady_checking fits (k ∷ ks) x =
        subst (SteadyAt table_open nulling) (sym x.is) (at_standing rid first width (met_checks insert fits) (grows_then (g_op nulling (op.RowOf 0 rid first width)) x.checked.grows) x.checked.steady)

    grows_to_fixing : Grows y fixing
    grows_to_fixing = grows_then (grows_refusing may) (grows_fixing o)

    grows_to_nulling : Grows a nulling
    grows_to_nulling =
        grows_then sy.grows (grows_then grows_to_fixing (grows_nulls fixing insert.columns name first causes))

    grows_row : Grows a row_code
    grows_row =
        grows_then grows_to_nulling (grows_then (grows_checking insert.checks checks) (grows_then (grows_readying within) (grows_then (grows_meeting (may_be_met o insert.keys)) (grows_then grows_putting (g_released putting first)))))

    steady_row : NamesWhatIsThere insert → SteadyAt table_open a row_code
    steady_row fits =
        at_then (at_of table_open (met_defaults insert fits table_open) sy.steady) (at_then (at_of table_open used (steady_refusing may)) (at_then (at_of table_open used (steady_fixing o)) (at_then (at_of table_open used (steady_nulls on_table fixing insert.columns name first causes)) (at_then (steady_checking fits insert.checks checks) (at_then (at_of table_open used (steady_readying within)) (at_then (at_of table_open used (steady_meeting (may_be_met o insert.keys))) (at_then (at_of table_open used steady_putting) (at_of table_open used (st_released on_table [] putting first)))))))))

    -- what is taken of registers
    wide_y : refused.next ≡ first + (width + length (columns_beside insert.rowid))
    wide_y = omega (arith, next_refusing may, sy.next, length-append insert.columns (columns_beside insert.rowid))

    causes_there : causes < fixing.most
    causes_there = omega (arith, sy.counted, sy.next, below, grows_to_fixing.most)

    next_nulling : refused.next ≤ nulling.next
    next_nulling =
        let same = same_nulls fixing insert.columns name first causes in omega (arith, same.next, next_fixing o)

    module _ (m : Setting) (w : World) (kept_values : List Value) where
      abbrev env : Environment
      env = seen_from m w

      abbrev outs : List Out
      outs = stored_for env insert.columns kept_values

      abbrev beside : List Out
      beside = rowid_beside insert.rowid kept_values

      abbrev values : List Value
      values = map good_or_null outs

      abbrev values_beside : List Value
      values_beside = map good_or_null beside

      abbrev all : Out
      all = fold with_causes no_causes (outs ++ beside)

      abbrev all_values : List Value
      all_values = values ++ values_beside

      abbrev new : NewRow
      new = new_of insert.rowid outs beside

      abbrev row_of : ℤ → StoredRow
      row_of n = seen (rowid_column insert.rowid) (record { rowid = n; values = values })

      abbrev kept_row : ℤ → StoredRow
      kept_row n = stored_of (rowid_column insert.rowid) (row_of n)

      abbrev rows : Here → List StoredRow
      rows h0 = rows_of (world_of h0.shared) table

      abbrev x0 : Here → Written
      x0 h0 = h0.shared.written

      abbrev course : Shared → Course
      course = row_put env insert kept_values

      abbrev done : Claim
      done = HasRun course first causes

      abbrev last : Last
      last = HasFailed course

      all_outs : stored_for env all_columns kept_values ≡ outs ++ beside
      all_outs =
          stored-append env insert.columns (columns_beside insert.rowid) kept_values
          ∙ ap (λ l. outs ++ l) (sym (beside-is env insert.rowid kept_values))

      wide_values : width ≡ length values
      wide_values = sym (length-map outs good_or_null ∙ stored-long env insert.columns kept_values)

      wide_beside : length values_beside ≡ length (columns_beside insert.rowid)
      wide_beside = length-map beside good_or_null ∙ beside-long insert.rowid kept_values

      stands_o : Stands insert.rowid values values_beside o
      stands_o = placed values values_beside wide_values wide_beside

      made : is_bad all ≡ false → new_row env insert kept_values ≡ Ok new
      made e = new-good insert.rowid outs beside e

      -- ---- what is known on the way

      abbrev Based : Claim
      Based h0 h = But first causes h0 h × IsSetAt table causes h0 × IsSound (world_of h0.shared)

      abbrev begun : Claim
      begun h0 h = Based h0 h × (read h.regs causes ≡ no_causes) × AreKept causes first row kept_values h.regs

      abbrev stored : Claim
      stored h0 h = Based h0 h × (outs_from h.regs first (length (outs ++ beside)) ≡ outs ++ beside) × (read h.regs causes ≡ all) × (may ≡ false → is_bad all ≡ false)

      abbrev good : Claim
      good h0 h =
          Based h0 h × (outs_from h.regs first (length (map Good all_values)) ≡ map Good all_values) × (read h.regs causes ≡ no_causes)
          × (is_bad all ≡ false)

      -- the rowid is in this register
      abbrev has_row : ℕ → ℤ → Claim
      has_row r n h0 h =
          Based h0 h × (fixed name (rows h0) new.rowid (x0 h0) ≡ Done n (x0 h0)) × (read h.regs r ≡ Good (Integer n))
          × (outs_from h.regs first width ≡ map Good (row_of n).values) × (read h.regs causes ≡ no_causes) × (is_bad all ≡ false)

      abbrev known : ℤ → Claim
      known n h0 h = has_row rid n h0 h × (lacks_value insert.columns (row_of n).values ≡ false)

      abbrev passes : ℤ → Claim
      passes n h0 h = known n h0 h × (first_broken name insert.checks (at_row env (row_of n)) ≡ None)

      based_regs : (h0 h : Here) (regs : List Out) → SameBut causes first h.regs regs → Based h0 h → Based h0 (with_regs h regs)
      based_regs h0 h regs same base = (but_regs regs same base.0, base.1, base.2)

      scene_is : (h0 h : Here) → Based h0 h → h.scene ≡ scene_on table
      scene_is h0 h base = base.0.scene ∙ base.1.scene

      args_are : (h0 h : Here) → Based h0 h → h.inputs.args ≡ []
      args_are h0 h base = ap (λ (i : machine.Inputs). i.args) base.0.inputs ∙ base.1.args

      opened : (h0 h : Here) → Based h0 h → cursor_at h.scene.cursors 1 ≡ Open table None
      opened h0 h base = ap (λ (s : machine.Scene). cursor_at s.cursors 1) (scene_is h0 h base)

      rows_now : (h0 h : Here) → Based h0 h → rows_of (world_of h.shared) table ≡ rows h0
      rows_now h0 h base = ap (λ (x : Shared). rows_of (world_of x) table) base.0.shared

      fails : (h0 h : Here) (why : CauseSet) → Based h0 h → row_effect env insert kept_values (x0 h0) ≡ Fails why (x0 h0) → last h0 (GivesUp why) h.shared
      fails h0 h why base e = (why, refl, ap (course_of h0.shared) e ∙ ap (failed why) (sym base.0.shared))

      -- ---- what is stored

      stores : Triple m a y (λ h0. sum_by column_steps all_columns) no_labels last begun stored
      stores = t_stores m tt kept_values no_labels last begun stored sy (λ h0 h pre. pre.2) (λ h0 h regs pre is gathers same.
          let seen = stored-same (environment_of m h) env all_columns kept_values (sees-none m w table h (scene_is h0 h pre.0) (args_are h0 h pre.0)) ∙ all_outs in (
            based_regs h0 h regs same pre.0,
            subst (λ l. outs_from regs first (length l) ≡ l) seen is,
            gathers ∙ ap (λ o. fold with_causes o (stored_for (environment_of m h) all_columns kept_values)) pre.1 ∙ ap (fold with_causes no_causes) seen,
            λ none. ap is_bad (ap (fold with_causes no_causes) (sym all_outs) ∙ held none h.regs kept_values env (pre.2 h.regs (λ k lt ne. refl))),
          ))

      good_if : (h0 h : Here) → stored h0 h → is_bad all ≡ false → good h0 h
      good_if h0 h pre e =
          let calm = calm-good (outs ++ beside) e in
          let same : outs ++ beside ≡ map Good all_values = calm.1 ∙ ap (map Good) (map-append good_or_null outs beside) in
          (pre.0, subst (λ l. outs_from h.regs first (length l) ≡ l) same pre.1, pre.2 ∙ calm.0, e)

      tests : (b : Bool) → (b ≡ false → is_bad all ≡ false ⊎ (may ≡ false)) → Triple m y (with_row_tested b y causes) (λ h0. 3) no_labels last stored good
      tests true none = t_refused y causes m last stored good (λ h0 h pre e. good_if h0 h pre (ap is_bad (sym pre.2) ∙ e)) (λ h0 h pre e.
          let bad = new-bad insert.rowid outs beside all (ap is_bad (sym pre.2) ∙ e) in
          (bad.0, ap leaving_of (pre.2 ∙ bad.1), ap (course_of h0.shared) (effect_bad env insert kept_values (x0 h0) bad.0 bad.2) ∙ ap (failed bad.0) (sym pre.0.0.shared)))
      tests false none =
          t_more (λ h0. 3) (λ h0. omega arith) (t_use stored good (λ h0 h pre. pre) (λ h0 h pre. good_if h0 h pre (⊎_elim (λ e. e) (λ e. pre.3 e) (none refl))) (t_draft m no_labels last stored (grows_none y) refl))

      -- ---- the rowid

      first_values : (h0 h : Here) → good h0 h → outs_from h.regs first width ≡ map Good values
      first_values h0 h pre =
          let apart = subst (λ l. outs_from h.regs first (length l) ≡ l) (map-append Good values values_beside) pre.1 in
          let long : length (map Good values) ≡ width = length-map values Good ∙ sym wide_values in
          ap (outs_from h.regs first) (sym long) ∙ outs_prefix h.regs first (map Good values) (map Good values_beside) apart

      read_given : (k : ℕ) (h0 h : Here) → Stands insert.rowid values values_beside (Some k) → good h0 h → read h.regs (first + k) ≡ Good new.rowid
      read_given k h0 h st pre =
          let inside : k < length (map Good all_values) = omega (arith, stands-within st, length-map all_values Good, length-append values values_beside) in
          outs_read h.regs first (map Good all_values) k (Good Null) pre.1 inside
          ∙ read-good all_values k
          ∙ ap Good (sym (stands-is st))

      values_fixed : (k : ℕ) (h0 h : Here) (n : ℤ) (regs : List Out) → Stands insert.rowid values values_beside (Some k) → good h0 h → read regs (first + k) ≡ Good (Integer n) → ((j : ℕ) → j ≢ first + k → read regs j ≡ read h.regs j) → outs_from regs first width ≡ map Good (row_of n).values
      values_fixed k h0 h n regs (Beside _ at lt e none) pre is same =
          outs_same regs h.regs width first (λ j le below. same j (omega (arith, le, below, at, wide_values)))
          ∙ first_values h0 h pre
          ∙ ap (map Good) (sym (none n))
      values_fixed k h0 h n regs (Within _ lt e set) pre is same =
          outs_set h.regs regs width first k (Good (Integer n)) is same
          ∙ ap (λ l. slice_set l k (Good (Integer n))) (first_values h0 h pre)
          ∙ sym (map-set Good values k (Integer n))
          ∙ ap (map Good) (sym (set n))

      fixed_at : (k : ℕ) (h0 h : Here) (n : ℤ) (regs : List Out) → Stands insert.rowid values values_beside (Some k) → good h0 h → fixed name (rows h0) new.rowid (x0 h0) ≡ Done n (x0 h0) → read regs (first + k) ≡ Good (Integer n) → ((j : ℕ) → j ≢ first + k → read regs j ≡ read h.regs j) → has_row (first + k) n h0 (with_regs h regs)
      fixed_at k h0 h n regs st pre e is same = (
        based_regs h0 h regs (λ j lt ne. same j (omega (arith, lt))) pre.0,
        e,
        is,
        values_fixed k h0 h n regs st pre is same,
        same causes (omega (arith, below)) ∙ pre.2,
        pre.3,
      )

      abbrev some_row : ℕ → Claim
      some_row r h0 h = (n : ℤ) × has_row r n h0 h

      full : (h0 h : Here) → good h0 h → new.rowid ≡ Null → next_rowid (rows_of (world_of h.shared) table) ≡ None → last h0 (GivesUp (only (Full name))) h.shared
      full h0 h pre null none =
          fails h0 h (only (Full name)) pre.0 (effect_unfixed env insert kept_values (x0 h0) new (made pre.3) (only (Full name)) (fixed-drawn name (rows h0) new.rowid (x0 h0) None null (ap next_rowid (sym (rows_now h0 h pre.0)) ∙ none)))

      draws : (h0 h : Here) (n : ℤ) → good h0 h → new.rowid ≡ Null → next_rowid (rows_of (world_of h.shared) table) ≡ Some n → fixed name (rows h0) new.rowid (x0 h0) ≡ Done n (x0 h0)
      draws h0 h n pre null next =
          fixed-drawn name (rows h0) new.rowid (x0 h0) (Some n) null (ap next_rowid (sym (rows_now h0 h pre.0)) ∙ next)

      fixes : (o : Option ℕ) → Stands insert.rowid values values_beside o → Triple m refused (with_rowid_fixed o refused first name) (λ h0. rowid_steps o) no_labels last good (some_row (rowid_register o first refused.next))
      fixes None (Missing null none) =
          let r = refused.next in
          let take = t_draft m no_labels last good (g_taken refused) refl in
          let draw = t_draws m (taken refused) r name table no_labels last good (some_row r) (omega arith) (λ h0 h pre. opened h0 h pre.0) (λ h0 h regs n pre next is same. (
            n,
            (
              based_regs h0 h regs (λ j lt ne. same j (omega (arith, lt, wide_y))) pre.0,
              draws h0 h n pre null next,
              is,
              outs_same regs h.regs width first (λ j le lt. same j (omega (arith, lt, wide_y))) ∙ first_values h0 h pre ∙ ap (map Good) (sym (none n)),
              same causes (omega (arith, below, wide_y)) ∙ pre.2,
              pre.3,
            ),
          )) (λ h0 h pre none. full h0 h pre null none) in
          t_more (λ h0. 1) (λ h0. omega arith) (t_seq take draw)
      fixes (Some k) st =
          let there : first + k < refused.most = omega (arith, stands-within st, wide_values, wide_beside, wide_y, next_refusing may, sy.counted, (grows_refusing may).most) in
          let null_if = λ (h0 h : Here) (pre : good h0 h) (e : machine.is_null (read h.regs (first + k)) ≡ true). null-is new.rowid (ap machine.is_null (sym (read_given k h0 h st pre)) ∙ e) in
          t_tested refused (first + k) name m table last good (some_row (first + k)) there (λ h0 h pre. opened h0 h pre.0) (λ h0 h regs n pre e next is same. (n, fixed_at k h0 h n regs st pre (draws h0 h n pre (null_if h0 h pre e) next) is same)) (λ h0 h pre e none. full h0 h pre (null_if h0 h pre e) none) (λ h0 h n pre is fits.
          let given : new.rowid ≡ Integer n = good-is (sym (read_given k h0 h st pre) ∙ is) in
          (n, fixed_at k h0 h n h.regs st pre (fixed-given name (rows h0) new.rowid (x0 h0) n given fits) is (λ j ne. refl))) (λ h0 h pre e f.
          let is = read_given k h0 h st pre in
          fails h0 h (only Mismatch) pre.0 (effect_unfixed env insert kept_values (x0 h0) new (made pre.3) (only Mismatch) (fixed-wrong name (rows h0) new.rowid (x0 h0) (ap machine.is_null (sym is) ∙ e) (ap is_integer (sym is) ∙ f))))

      -- ---- the tests of a row whose rowid is this

      module _ (n : ℤ) where
        abbrev stored_row : StoredRow
        stored_row = row_of n

        long_values : length stored_row.values ≡ width
        long_values = with_column-long (rowid_column insert.rowid) (Integer n) values ∙ sym wide_values

        nulls : Triple m fixing nulling (λ h0. sum_by null_steps insert.columns) no_labels last (has_row rid n) (known n)
        nulls = t_nulls m fixing insert.columns name first causes last (has_row rid n) (known n) stored_row.values long_values causes_there (λ h0 h pre. pre.3) (λ h0 h pre e. (pre, e)) (λ h0 h pre e.
            fails h0 h (only (Constraint constraint.NotNull name)) pre.0 (effect_null env insert kept_values (x0 h0) new (made pre.5) n pre.1 e))

        -- the row that the registers hold
        row_is : (h0 h : Here) → has_row rid n h0 h → row_in h.regs rid first width ≡ stored_row
        row_is h0 h pre =
            let number : integer_in h.regs rid ≡ n = ap (λ v. integer_of (machine.good_or_null v)) pre.2 in
            let same : values_from h.regs first width ≡ stored_row.values = values_outs h.regs width first ∙ ap (map machine.good_or_null) pre.3 ∙ good_or_null-same stored_row.values in
            ap (λ k. record { rowid = k; values = values_from h.regs first width }) number
            ∙ ap (λ vs. record { rowid = n; values = vs }) same

        -- with the registers in front of a place as they were
        register_below : (o : Option ℕ) → Stands insert.rowid values values_beside o → rowid_register o first refused.next < (with_rowid_fixed o refused first name).next
        register_below None st = omega arith
        register_below (Some k) st = omega (arith, stands-within st, wide_values, wide_beside, wide_y)

        rid_below : rid < nulling.next
        rid_below =
            let same = same_nulls fixing insert.columns name first causes in
            omega (arith, same.next, register_below o stands_o)

        known_regs : (h0 h : Here) (regs : List Out) → ((k : ℕ) → k < nulling.next → read regs k ≡ read h.regs k) → known n h0 h → known n h0 (with_regs h regs)
        known_regs h0 h regs same pre =
            let row = pre.0 in (
              (
                based_regs h0 h regs (λ k lt ne. same k (omega (arith, lt, next_nulling, wide_y))) row.0,
                row.1,
                same rid rid_below ∙ row.2,
                outs_same regs h.regs width first (λ k le lt. same k (omega (arith, lt, next_nulling, wide_y))) ∙ row.3,
                same causes (omega (arith, below, next_nulling, wide_y)) ∙ row.4,
                row.5,
              ),
              pre.1,
            )

        -- a cursor stands on it, and all else is as it is known
        abbrev settled : Here → Here
        settled h = record h { scene = scene_on table }

        abbrev on_row : Claim
        on_row h0 h = known n h0 (settled h) × (h.scene ≡ scene_at table stored_row)

        abbrev on_passed : Claim
        on_passed h0 h = passes n h0 (settled h) × (h.scene ≡ scene_at table stored_row)

        settled_is : (h0 h : Here) → Based h0 h → h ≡ settled h
        settled_is h0 h base = ap (λ s. record h { scene = s }) (scene_is h0 h base)

        cursor_there : 0 < nulling.cursors
        cursor_there = omega (arith, grows_to_nulling.cursors, cursors_are)

        checked : (l : List BoundExpr) → insert.checks ≡ l → ChecksRow checking nulling c name l rid first width → Triple m nulling c (λ h0. checks_steps l) no_labels last (known n) (passes n)
        checked [] is e =
            subst (λ z. Triple m nulling z (λ h0. 0) no_labels last (known n) (passes n)) (sym e) (t_use (known n) (passes n) (λ h0 h pre. pre) (λ h0 h pre. (pre, ap (λ l. first_broken name l (at_row env stored_row)) is)) (t_draft m no_labels last (known n) (grows_none nulling) refl))
        checked (k ∷ ks) is x =
            let l = k ∷ ks in
            let standing = t_row_of m nulling 0 rid first width no_labels last (known n) on_row cursor_there (λ h0 h pre lt.
            let scene = scene_is h0 h pre.0.0 in (
              subst (known n h0) (settled_is h0 h pre.0.0) pre,
              ap (λ (s : machine.Scene). record s { cursors = slice_set s.cursors 0 (standing_on (row_in h.regs rid first width)) }) scene ∙ ap (λ r. scene_at table r) (row_is h0 h pre.0),
            )) in
            let sees = λ (h0 h : Here) (pre : on_row h0 h). first_broken-same name l (environment_of m h) (at_row env stored_row) (sees-row m w table stored_row h pre.1 (args_are h0 (settled h) pre.0.0.0)) in
            let same = λ (why : Option CauseSet) (e : first_broken name l (at_row env stored_row) ≡ why). ap (λ l. first_broken name l (at_row env stored_row)) is ∙ e in
            let pass = t_passes m tt no_labels last on_row on_passed x.checked (λ h0 h regs pre none keeps. ((known_regs h0 (settled h) regs keeps pre.0, same None (sym (sees h0 h pre) ∙ none)), pre.1)) (λ h0 h why pre some.
            let row = pre.0.0 in
            fails h0 (settled h) why row.0 (effect_broken env insert kept_values (x0 h0) new (made row.5) n row.1 pre.0.1 why (same (Some why) (sym (sees h0 h pre) ∙ some)))) in
            let close = t_move m x.last (op.Close 0) 0 Closed no_labels last on_passed (passes n) (omega (arith, cursor_there, x.checked.grows.cursors)) (λ at s. refl) (λ h0 h pre e.
            let back : (moved h 0 Closed).scene ≡ scene_on table = ap (λ (s : machine.Scene). record s { cursors = slice_set s.cursors 0 Closed }) pre.1 in
            subst (λ s. passes n h0 (record h { scene = s })) (sym back) pre.0) in
            subst (λ z. Triple m nulling z (λ h0. checks_steps l) no_labels last (known n) (passes n)) (sym x.is) (t_more (λ h0. checks_steps l) (λ h0. omega arith) (t_seq (t_seq standing pass) close))

        -- ---- the row as it is stored

        -- what is known of it by the tests so far
        abbrev Tested : Here → Type 0
        Tested h0 =
            (fixed name (rows h0) new.rowid (x0 h0) ≡ Done n (x0 h0)) × (is_bad all ≡ false) × (lacks_value insert.columns stored_row.values ≡ false)
            × (first_broken name insert.checks (at_row env stored_row) ≡ None)

        tested : (h0 h : Here) → passes n h0 h → Tested h0
        tested h0 h pre = (pre.0.0.1, pre.0.0.5, pre.0.1, pre.1)

        -- its rowid is in a register, and its values are in others
        abbrev readied : ℕ → Claim
        readied r h0 h =
            Based h0 h × (row_in h.regs r first width ≡ kept_row n) × (read h.regs causes ≡ no_causes) × Tested h0

        next_checked : nulling.next ≡ c.next
        next_checked = sym (checks_row_next checking nulling c name insert.checks rid first width checks)

        -- the rowid has been copied
        abbrev copied : Claim
        copied h0 h = passes n h0 h × (read h.regs c.next ≡ Good (Integer n))

        -- the values with NULL in place of the rowid
        cleared : (k : ℕ) (h0 h : Here) (regs : List Out) → rid ≡ first + k → rowid_column insert.rowid ≡ Some k → copied h0 h → read regs rid ≡ Good Null → ((j : ℕ) → j ≢ rid → read regs j ≡ read h.regs j) → row_in regs c.next first width ≡ kept_row n
        cleared k h0 h regs at column pre is same =
            let row = pre.0.0.0 in
            let apart : c.next ≢ rid = λ e. omega (arith, e, rid_below, next_checked) in
            let number : integer_in regs c.next ≡ n = ap (λ v. integer_of (machine.good_or_null v)) (same c.next apart ∙ pre.1) in
            let outs_now : outs_from regs first width ≡ map Good (slice_set stored_row.values k Null) = outs_set h.regs regs width first k (Good Null) (ap (read regs) (sym at) ∙ is) (λ j ne. same j (λ e. ne (e ∙ at))) ∙ ap (λ l. slice_set l k (Good Null)) row.3 ∙ sym (map-set Good stored_row.values k Null) in
            let values_now : values_from regs first width ≡ (kept_row n).values = values_outs regs width first ∙ ap (map machine.good_or_null) outs_now ∙ good_or_null-same (slice_set stored_row.values k Null) ∙ ap (λ o. with_column o Null stored_row.values) (sym column) in
            ap (λ k. record { rowid = k; values = values_from regs first width }) number
            ∙ ap (λ vs. record { rowid = n; values = vs }) values_now

        readies : (b : Bool) → Storing insert.rowid width o b → Triple m c (with_row_stored b c rid) (λ h0. apart_steps b) no_labels last (passes n) (readied (stored_rowid b rid c.next))
        readies false (Apart same) =
            let whole : stored_row ≡ kept_row n = ap (λ vs. record { rowid = n; values = vs }) (sym (same Null stored_row.values long_values)) in
            t_use (passes n) (readied rid) (λ h0 h pre. pre) (λ h0 h pre. (pre.0.0.0, row_is h0 h pre.0.0 ∙ whole, pre.0.0.4, tested h0 h pre)) (t_draft m no_labels last (passes n) (grows_none c) refl)
        readies true (Once k lt at column) =
            let r = c.next in
            let place : rid ≡ first + k = ap (λ p. rowid_register p first refused.next) at in
            let take = t_draft m no_labels last (passes n) (g_taken c) refl in
            let copy = t_put m (taken c) (op.Copy rid r) r (λ h. read h.regs rid) no_labels last (passes n) copied (omega arith) (λ at s. refl) (λ h0 h regs pre long is same. (
              (known_regs h0 h regs (λ j low. same j (omega (arith, low, next_checked))) pre.0, pre.1),
              is ∙ pre.0.0.2,
            )) in
            let clear = t_put m copying (op.Null rid) rid (λ h. Good Null) no_labels last copied (readied r) (omega (arith, rid_below, next_checked)) (λ at s. refl) (λ h0 h regs pre long is same.
            let row = pre.0.0.0 in (
              based_regs h0 h regs (λ j low ne. same j (omega (arith, low, place))) row.0,
              cleared k h0 h regs place column pre is same,
              same causes (omega (arith, below, place)) ∙ row.4,
              tested h0 h pre.0,
            )) in
            t_more (λ h0. 2) (λ h0. omega arith) (t_seq take (t_seq copy clear))

        -- ---- no row is in its way

        -- it may be put
        abbrev ready : ℕ → Claim
        ready r h0 h =
            Based h0 h × (row_in h.regs r first width ≡ kept_row n) × (read h.regs causes ≡ no_causes)
            × (course h0.shared ≡ finished (record h0.shared { written = with_row h0.shared.written table (kept_row n) }))

        comes : (h0 : Here) → Tested h0 → row_in_way insert.keys (rows h0) (kept_row n) ≡ None → course h0.shared ≡ finished (record h0.shared { written = with_row h0.shared.written table (kept_row n) })
        comes h0 known none =
            ap (course_of h0.shared) (effect_free env insert kept_values (x0 h0) new (made known.1) n known.0 known.2 known.3 (ap is_some none))

        -- where none may be
        unmet : (o : Option ℕ) (keys : List (List KeyTerm)) → Stands insert.rowid values values_beside o → may_be_met o keys ≡ false → (h0 : Here) → IsSound (world_of h0.shared) → Tested h0 → row_in_way keys (rows h0) (kept_row n) ≡ None
        unmet (Some k) keys st e h0 sound known = absurd (cc)
        unmet None (key ∷ keys) st e h0 sound known = absurd (cc)
        unmet None [] (Missing null none) e h0 sound known =
            let next : next_rowid (rows h0) ≡ Some n = drawn-some name (next_rowid (rows h0)) (x0 h0) n (sym (ap (λ v. fixed name (rows h0) v (x0 h0)) null) ∙ known.0) in
            unmet_without_keys (rows h0) (kept_row n) (next_rowid-free (rows h0) n (ordered_rows (world_of h0.shared) table sound) next)

        meets : (may : Bool) → may_be_met o insert.keys ≡ may → Triple m readying (with_met_tested may readying name insert.keys kept_rid first width causes) (λ h0. met_steps may) no_labels last (readied kept_rid) (ready kept_rid)
        meets false e =
            t_use (readied kept_rid) (ready kept_rid) (λ h0 h pre. pre) (λ h0 h pre. (pre.0, pre.1, pre.2, comes h0 pre.3 (unmet o insert.keys stands_o e h0 pre.0.2 pre.3))) (t_draft m no_labels last (readied kept_rid) (grows_none readying) refl)
        meets true e =
            let causes_in : causes < readying.most = omega (arith, causes_there, (grows_nulls fixing insert.columns name first causes).most, (grows_checking insert.checks checks).most, (grows_readying within).most) in
            let looked = λ (h0 h : Here) (pre : readied kept_rid h0 h). ap (row_in_way insert.keys (rows_of (world_of h.shared) table)) pre.1 ∙ ap (λ l. row_in_way insert.keys l (kept_row n)) (rows_now h0 h pre.0) in
            t_met readying name insert.keys kept_rid first width causes m table last (readied kept_rid) (ready kept_rid) causes_in (λ h0 h pre. opened h0 h pre.0) (λ h0 h pre is. (pre.0, pre.1, pre.2, comes h0 pre.3 (sym (looked h0 h pre) ∙ is))) (λ h0 h x pre is.
            let known = pre.3 in
            fails h0 h (only (Constraint constraint.Unique name)) pre.0 (effect_met env insert kept_values (x0 h0) new (made known.1) n known.0 known.2 known.3 (ap is_some (sym (looked h0 h pre) ∙ is))))

        -- ---- the row is put

        abbrev with_put : ℕ → Here → Here
        with_put r h =
            record h { shared = record h.shared { written = inserted (cursor_at h.scene.cursors 1) h.shared.written (row_in h.regs r first width) } }

        inserts : (d : Draft) (r : ℕ) → Triple m d (with_op d (op.Insert 1 r first width)) (λ h0. 1) no_labels last (ready r) done
        inserts d r = t_op m d (op.Insert 1 r first width) (with_put r) no_labels last (ready r) done (λ at s. refl) (λ h. (refl, refl)) (λ h0 h most wide pre.
            let base = pre.0 in
            let now : (with_put r h).shared ≡ record h0.shared { written = with_row h0.shared.written table (kept_row n) } = ap (λ k. record h.shared { written = inserted k h.shared.written (row_in h.regs r first width) }) (opened h0 h base) ∙ ap (λ (x : Shared). record x { written = with_row x.written table (row_in h.regs r first width) }) base.0.shared ∙ ap (λ r. record h0.shared { written = with_row h0.shared.written table r }) pre.1 in
            record {
              regs = base.0.regs;
              calm = pre.2;
              scene = base.0.scene;
              store = base.0.store;
              is = pre.3 ∙ ap finished (sym now);
            })

        abbrev behind_steps : ℕ
        behind_steps =
            sum_by null_steps insert.columns + checks_steps insert.checks + met_steps (may_be_met o insert.keys) + insert_steps within

        behind : Triple m fixing putting (λ h0. behind_steps) no_labels last (has_row rid n) done
        behind = t_more (λ h0. behind_steps) (λ h0. omega (arith, steps-put within)) (t_seq (t_seq (t_seq (t_seq nulls (checked insert.checks refl checks)) (readies within keeping)) (meets (may_be_met o insert.keys) refl)) (inserts meeting kept_rid))

      whole : o ≡ rowid_given insert.rowid width → within ≡ is_within insert.rowid width → Triple m a row_code (λ h0. row_steps insert) no_labels last begun done
      whole o_is within_is =
          let rowids : rowid_steps o ≡ rowid_steps (rowid_given insert.rowid width) = ap rowid_steps o_is in
          let met : met_steps (may_be_met o insert.keys) ≡ met_steps (may_be_met (rowid_given insert.rowid width) insert.keys) = ap (λ p. met_steps (may_be_met p insert.keys)) o_is in
          let put : insert_steps within ≡ insert_steps (is_within insert.rowid width) = ap insert_steps within_is in
          let front = t_seq (t_seq stores (tests may (λ e. inr e))) (fixes o stands_o) in
          let rest = t_some (has_row rid) (λ n. behind n) in
          let back = t_draft m no_labels last done (g_released putting first) refl in
          t_more (λ h0. row_steps insert) (λ h0. omega (arith, rowids, met, put, sum_by-append column_steps insert.columns (columns_beside insert.rowid))) (t_seq (t_seq front rest) back)

pub row-puts : (a y c : Draft) (may : Bool) (causes : ℕ) (insert : BoundInsert) (row : List Kept) → causes < a.next → a.cursors ≡ 2 → Stores (needing (flat_map default_needs insert.columns)) a y causes row (insert.columns ++ columns_beside insert.rowid) → (may ≡ false → AreHeld row (insert.columns ++ columns_beside insert.rowid)) → let o = rowid_given insert.rowid (length insert.columns) in let refused = with_row_tested may y causes in let rid = rowid_register o a.next refused.next in ChecksRow (needing (needs_of_each insert.checks)) (with_nulls_refused (with_rowid_fixed o refused a.next insert.name) insert.columns insert.name a.next causes) c insert.name insert.checks rid a.next (length insert.columns)
    → let within = is_within insert.rowid (length insert.columns) in let kept = stored_rowid within rid c.next in Puts (NamesWhatIsThere insert) a (released (with_op (with_met_tested (may_be_met o insert.keys) (with_row_stored within c rid) insert.name insert.keys kept a.next (length insert.columns) causes) (op.Insert 1 kept a.next (length insert.columns))) a.next) insert.table causes (AreKept causes a.next row) (λ env. row_put env insert) (row_steps insert)
row-puts a y c may causes insert row below cursors_are sy held checks =
    let o = rowid_given insert.rowid (length insert.columns) in
    let within = is_within insert.rowid (length insert.columns) in
    let keeping = storing insert.rowid (length insert.columns) in
    let placed = λ (values beside : List Value) (wide : length insert.columns ≡ length values) (long : length beside ≡ length (columns_beside insert.rowid)). stands insert.rowid values beside (length insert.columns) wide long in
    puts_of insert.table causes (AreKept causes a.next row) (λ env. row_put env insert) (λ m w x. begun a y c may o within causes insert row below cursors_are sy held checks placed keeping m w x) (grows_row a y c may o within causes insert row below cursors_are sy held checks placed keeping) refl (steady_row a y c may o within causes insert row below cursors_are sy held checks placed keeping) (λ m w x s sound set kept_now. ((but_none a.next causes (here s), record { scene = set.scene; args = set.args; calm = set.calm }, sound), set.calm, kept_now)) (λ m w x. whole a y c may o within causes insert row below cursors_are sy held checks placed keeping m w x refl refl)

-- ---- registers and cursors along it

pub row-keeps : (y : Draft) (may : Bool) (o : Option ℕ) (columns : List PutColumn) (name : List ℕ) (first causes : ℕ) → let d = with_nulls_refused (with_rowid_fixed o (with_row_tested may y causes) first name) columns name first causes in (d.cursors ≡ y.cursors) × (y.next ≤ y.most → d.next ≤ d.most) × (y.next ≤ d.next) × (d.units ≡ y.units)
row-keeps y may o columns name first causes = by may o
  where
    from : (f : Draft) → (f.cursors ≡ y.cursors) → (y.next ≤ y.most → f.next ≤ f.most) → (y.next ≤ f.next) → (f.units ≡ y.units) → let d = with_nulls_refused f columns name first causes in (d.cursors ≡ y.cursors) × (y.next ≤ y.most → d.next ≤ d.most) × (y.next ≤ d.next) × (d.units ≡ y.units)
    from f cursors counted more units =
        let same = same_nulls f columns name first causes in
        (same.cursors ∙ cursors, λ le. omega (arith, counted le, same.next, same.most), omega (arith, more, same.next), same.units ∙ units)

    by : (may : Bool) (o : Option ℕ) → let d = with_nulls_refused (with_rowid_fixed o (with_row_tested may y causes) first name) columns name first causes in (d.cursors ≡ y.cursors) × (y.next ≤ y.most → d.next ≤ d.most) × (y.next ≤ d.next) × (d.units ≡ y.units)
    by true None = from (with_rowid_fixed None (with_row_tested true y causes) first name) refl (λ le. omega arith) (omega arith) refl
    by true (Some k) = from (with_rowid_fixed (Some k) (with_row_tested true y causes) first name) refl (λ le. omega arith) (omega arith) refl
    by false None = from (with_rowid_fixed None (with_row_tested false y causes) first name) refl (λ le. omega arith) (omega arith) refl
    by false (Some k) = from (with_rowid_fixed (Some k) (with_row_tested false y causes) first name) refl (λ le. omega arith) (omega arith) refl

pub met-keeps : (may : Bool) (d : Draft) (name : List ℕ) (keys : List (List KeyTerm)) (rowid first count causes : ℕ) → let t = with_met_tested may d name keys rowid first count causes in (t.cursors ≡ d.cursors) × (t.next ≡ d.next) × (t.units ≡ d.units)
met-keeps true d name keys rowid first count causes = (refl, refl, refl)
met-keeps false d name keys rowid first count causes = (refl, refl, refl)

pub stored-keeps : (within : Bool) (d : Draft) (rowid : ℕ) → let s = with_row_stored within d rowid in (s.cursors ≡ d.cursors) × (d.next ≤ s.next) × (s.units ≡ d.units)
stored-keeps false d rowid = (refl, omega arith, refl)
stored-keeps true d rowid = (refl, omega arith, refl)

pub row-counted : (y r f n : Draft) (may : Bool) (o : Option ℕ) (columns : List PutColumn) (name : List ℕ) (first causes : ℕ) → r ≡ with_row_tested may y causes → f ≡ with_rowid_fixed o r first name → n ≡ with_nulls_refused f columns name first causes → (n.cursors ≡ y.cursors) × (y.next ≤ y.most → n.next ≤ n.most) × (y.next ≤ n.next) × (n.units ≡ y.units)
row-counted y r f n may o columns name first causes r_is f_is n_is = rw (n_is, f_is, r_is) (row-keeps y may o columns name first causes)

-- by what the calls of the Builder made
pub row-puts-as : (a y r f n c s t d : Draft) (may within : Bool) (given : Option ℕ) (rid kept first count causes : ℕ) (insert : BoundInsert) (row : List Kept) → first ≡ a.next → count ≡ length insert.columns → given ≡ rowid_given insert.rowid count → within ≡ is_within insert.rowid count → r ≡ with_row_tested may y causes → rid ≡ rowid_register given first r.next → f ≡ with_rowid_fixed given r first insert.name → n ≡ with_nulls_refused f insert.columns insert.name first causes → ChecksRow (needing (needs_of_each insert.checks)) n c insert.name insert.checks rid first count → kept ≡ stored_rowid within rid c.next → s ≡ with_row_stored within c rid → t ≡ with_met_tested (may_be_met (rowid_given insert.rowid count) insert.keys) s insert.name insert.keys kept first count causes → d ≡ released (with_op t (op.Insert 1 kept first count)) first → causes < a.next → a.cursors ≡ 2 → Stores (needing (flat_map default_needs insert.columns)) a y causes row (insert.columns ++ columns_beside insert.rowid) → (may ≡ false → AreHeld row (insert.columns ++ columns_beside insert.rowid)) → Puts (NamesWhatIsThere insert) a d insert.table causes (AreKept causes a.next row) (λ env. row_put env insert) (row_steps insert)
row-puts-as a y r f n c s t d may within given rid kept first count causes insert row first_is count_is given_is within_is r_is rid_is f_is n_is checks kept_is s_is t_is d_is below cursors_are sy held =
    let checked = rw (n_is, f_is, rid_is, given_is, r_is, count_is, first_is) at checks in
    rw (d_is, t_is, s_is, kept_is, within_is, rid_is, given_is, r_is, count_is, first_is) (row-puts a y c may causes insert row below cursors_are sy held checked)
